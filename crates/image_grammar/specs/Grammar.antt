-- The lines behind the first five, each behind what the lines before have told.
use Rattle.std.specs.Prelude.{ℕ, ◌==◌, nat_le, Bool, true, false, not, ◌&&◌, ◌||◌, Option, Some, None, is_some, List, [], ◌∷◌, ◌++◌, length, Result, Ok}
use Rattle.std.specs.List.{range_with_len, list_any}
use Rattle.svsm_types.specs.declared.address.Page.{Page}
use Rattle.svsm_types.specs.declared.address.Gpa.{Gpa}
use Rattle.svsm_types.specs.declared.image.Image.{Image}
use Rattle.svsm_types.specs.declared.image.CoreLine.{CoreLine}
use Rattle.svsm_steps.specs.Sound.{has_lawful_rights, is_valid_where_held, is_accepted, has_vmsa}
use Rattle.svsm_steps.specs.Image.{range_of}
use Rattle.svsm_text.specs.Lines.{fields}
use Rattle.image_grammar.specs.declared.kind.ImageKind.{ImageKind}
use Rattle.image_grammar.specs.declared.kind.ImageKind.TheVariants as kinds
use Rattle.image_grammar.specs.declared.item.Item.{Item}
use Rattle.image_grammar.specs.declared.item.Item.TheVariants as items
use Rattle.image_grammar.specs.Told.{◌>>=◌, holds, at_line}
use Rattle.image_grammar.specs.Forms.{Fields, item_line}
use Rattle.image_grammar.specs.Kept.{Line}

-- one of these pages has the property
abbrev pub is_any_page : (ℕ → Bool) → ℕ → ℕ → Bool
is_any_page test first count = list_any test (range_with_len first count)

-- whether a page stands in a range
abbrev pub has_range : Image → ℕ → Bool
has_range image page = is_some (range_of image page)

-- the VMSA page of an earlier core
abbrev pub seat_taken : List CoreLine → Option (Page × Gpa) → Bool
seat_taken earlier None = false
seat_taken earlier (Some seat) = list_any (has_vmsa seat.0.0) earlier

-- the APIC id or the VMSA page of an earlier core, or a 65th core
abbrev pub core_taken : List CoreLine → CoreLine → Bool
core_taken earlier core =
    list_any (λ (other : CoreLine). other.apic == core.apic) earlier || (seat_taken earlier core.seat || nat_le 64 (length earlier))

-- something of the item stood before
abbrev pub overlaps : Image → Item → Bool
overlaps image (items.Range range) = is_any_page (has_range image) range.first.0 range.count
overlaps image (items.Accept span) = is_any_page (is_accepted image) span.first.0 span.count
overlaps image (items.Core core) = core_taken image.cores core
overlaps image _ = false

-- owner, state and rights of a range go together
abbrev pub is_lawful : Item → Bool
is_lawful (items.Range range) = has_lawful_rights range && is_valid_where_held range
is_lawful _ = true

-- the image with one more item
abbrev pub with_item : Image → Item → Image
with_item image (items.Range range) = record image { ranges = image.ranges ++ range ∷ [] }
with_item image (items.Large region) = record image { large = image.large ++ region ∷ [] }
with_item image (items.Accept span) = record image { accepts = image.accepts ++ span ∷ [] }
with_item image (items.Core core) = record image { cores = image.cores ++ core ∷ [] }
with_item image (items.Bytes fill) = record image { fills = image.fills ++ fill ∷ [] }
with_item image (items.Fault fault) = record image { faults = image.faults ++ fault ∷ [] }
with_item image (items.Host line) = record image { host = image.host ++ line ∷ [] }
with_item image items.Split = record image { split = true }
with_item image (items.Block block) = record image { blocks = image.blocks ++ block ∷ [] }
with_item image items.Announce = record image { announce = true }

-- an item that may stand behind those before
abbrev pub item_told : Image → Item → Result Image ImageKind
item_told image item = do
  _ ← holds kinds.Overlap (not (overlaps image item))
  _ ← holds kinds.State (is_lawful item)
  Ok (with_item image item)

-- the image with one more line
abbrev pub line_told : Image → Fields → Result Image ImageKind
line_told image line = do
  item ← item_line image line
  item_told image item

-- the image with these lines, or the first that fails
abbrev pub lines_told : Image → List Line → Result Image (ℕ × ImageKind)
lines_told image [] = Ok image
lines_told image (line ∷ lines) = do
  more ← at_line line.0 (line_told image (fields line.1))
  lines_told more lines
