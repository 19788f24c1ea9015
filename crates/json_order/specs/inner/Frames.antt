-- The open brackets, the innermost first.
use Rattle.std.specs.Prelude.{List, [], ◌∷◌, Option, Some, None}
use Rattle.json_order.specs.declared.frame.Frame.{Frame}
use Rattle.json_order.specs.declared.frame.Frame.TheVariants as frame
use Rattle.json_order.specs.declared.frame.Inner.{Inner}
use Rattle.json_order.specs.declared.frame.Inner.TheVariants as inner

abbrev pub bracket_of : Frame → Inner
bracket_of (frame.List at items) = inner.List
bracket_of (frame.Object at members key key_at) = inner.Object

abbrev pub inner_of : List Frame → Option Inner
inner_of [] = None
inner_of (f ∷ frames) = Some (bracket_of f)

abbrev pub popped : List Frame → Option Frame × List Frame
popped [] = (None, [])
popped (f ∷ frames) = (Some f, frames)
