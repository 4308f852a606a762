-- An image that is held, and what opening one answers. Assumes nothing.
use Rattle.std.specs.Prelude.{◌≡◌, Ok, Err, vec_items, Result}
use Rattle.refusal.specs.Rules.{Rules, FirstBroken}
use Rattle.name.specs.Names.{Bytes}
use Rattle.image.specs.Images.{Valid, image_rules}
use Rattle.image.specs.declared.Kind.{Kind}
use Rattle.image.specs.declared.held.Image.{Image}
use Rattle.image.specs.declared.Rejected.{Rejected}

-- the bytes of an image
abbrev pub image_bytes : Image → Bytes
image_bytes image = vec_items image.bytes

-- bytes are refused by the first of these rules that they break, and are handed back
pub record Refused (rules : Rules) (bs : Bytes) (back : Rejected) : Type 0 where
  pub why : FirstBroken rules back.why
  pub returned : vec_items back.bytes ≡ bs

-- an image of this kind, whole
pub record Accepted (kind : Kind) (bs : Bytes) (image : Image) : Type 0 where
  pub valid : Valid kind bs
  pub as_asked : image.kind ≡ kind
  pub held : image_bytes image ≡ bs

-- what opening answers: the image of valid bytes, or the refusal of others
abbrev pub Opened : Kind → Bytes → Result Image Rejected → Type 0
Opened kind bs (Ok image) = Accepted kind bs image
Opened kind bs (Err back) = Refused (image_rules kind bs) bs back × (Valid kind bs → ⊥)
