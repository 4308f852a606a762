use Rattle.std.proofs.Common.{◌≡◌, length}
use Rattle.image.specs.Opened.{image_bytes}
use Rattle.events.specs.Lists.{first_names}
use Rattle.events.specs.Inner.{Sofar}
use Rattle.events.proofs.loads.gather.Given as goal

abbrev pub invariant-loop-i : goal.invariant-loop-i
invariant-loop-i l = record {
  whole : length l.entries ≡ 64;
  gathered : Sofar (image_bytes l.image) (first_names l.i l.entries) l.i;
}
