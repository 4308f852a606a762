-- The names that an event list holds. Assumes nothing.
use Rattle.std.specs.Prelude.{List}
use Rattle.name.specs.Names.{Bytes}
use Rattle.events.specs.Lists.{first_names}
use Rattle.events.specs.declared.held.EventList.{EventList}

-- the names of an event list: event i has name i
abbrev pub names_in : EventList → List Bytes
names_in list = first_names list.count list.entries
