-- The forms of a line, by the fields behind its first word: words are tried first, then numbers, then their limits.
use Rattle.std.specs.Prelude.{ℕ, zero, suc, ◌+◌, ◌*◌, ◌/◌, ◌%◌, ◌^◌, ◌==◌, nat_lt, nat_le, Bool, true, false, ◌&&◌, if◌then◌else◌, List, [], ◌∷◌, length, take, drop, bytes_eq, codes, Option, Some, None, Result, Ok, Err}
use Rattle.std.specs.Int.{w64, from_le_bytes}
use Rattle.hex.specs.Hex.{decode_of}
use Rattle.hex.specs.declared.error.FromHexError.{FromHexError}
use Rattle.svsm_types.specs.Pages.{page_of, is_multiple, is_in_map}
use Rattle.svsm_types.specs.declared.address.Page.{Page}
use Rattle.svsm_types.specs.declared.platform.Size.{Size}
use Rattle.svsm_types.specs.declared.platform.Size.TheVariants.{Small, Large}
use Rattle.svsm_types.specs.declared.platform.Vmpl.{Vmpl}
use Rattle.svsm_types.specs.declared.image.Image.{Image}
use Rattle.svsm_types.specs.declared.image.Range.{Range}
use Rattle.svsm_types.specs.declared.image.Span.{Span}
use Rattle.svsm_types.specs.declared.image.CoreLine.{CoreLine}
use Rattle.svsm_types.specs.declared.image.Fill.{Fill}
use Rattle.svsm_types.specs.declared.image.FaultAt.{FaultAt}
use Rattle.svsm_types.specs.declared.image.HostLine.{HostLine}
use Rattle.svsm_types.specs.declared.image.HostLine.TheVariants as host
use Rattle.svsm_steps.specs.Sound.{is_in_limits, is_level}
use Rattle.svsm_text.specs.Numbers.{number_in}
use Rattle.image_grammar.specs.declared.kind.ImageKind.{ImageKind}
use Rattle.image_grammar.specs.declared.kind.ImageKind.TheVariants as kinds
use Rattle.image_grammar.specs.declared.words.LineWord.{LineWord}
use Rattle.image_grammar.specs.declared.words.LineWord.TheVariants as lines
use Rattle.image_grammar.specs.declared.words.ValueWord.{ValueWord}
use Rattle.image_grammar.specs.declared.words.ValueWord.TheVariants as values
use Rattle.image_grammar.specs.declared.words.EventWord.{EventWord}
use Rattle.image_grammar.specs.declared.words.EventWord.TheVariants as events
use Rattle.image_grammar.specs.declared.item.Item.{Item}
use Rattle.image_grammar.specs.declared.item.Item.TheVariants as items
use Rattle.image_grammar.specs.Told.{◌>>=◌, told, holds}
use Rattle.image_grammar.specs.Words.{line_word, owner_word, state_word, value_word, event_word}

-- the fields of a line behind its first word
abbrev pub Fields : Type 0
Fields = List (List ℕ)

-- one page or more, all in the map
abbrev pub is_run : ℕ → ℕ → ℕ → Bool
is_run regions first count = nat_lt 0 count && nat_le (first + count) (512 * regions)

-- range FIRST COUNT OWNER STATE RIGHTS
abbrev pub range_in : ℕ → List ℕ → List ℕ → List ℕ → List ℕ → List ℕ → Result Range ImageKind
range_in regions first count owner state rights = do
  owner ← told kinds.Line (owner_word owner)
  state ← told kinds.Line (state_word state)
  first ← told kinds.Number (number_in first)
  count ← told kinds.Number (number_in count)
  rights ← told kinds.Number (number_in rights)
  _ ← holds kinds.Range (is_run regions first count && nat_le rights 0xfff)
  Ok (record { first = record { 0 = first }; count = count; owner = owner; state = state; rights = rights })

-- `range FIRST COUNT OWNER STATE RIGHTS`
abbrev pub range_line : ℕ → Fields → Result Range ImageKind
range_line regions (first ∷ count ∷ owner ∷ state ∷ rights ∷ []) = range_in regions first count owner state rights
range_line regions _ = Err kinds.Line

-- large REGION
abbrev pub large_line : ℕ → Fields → Result ℕ ImageKind
large_line regions (region ∷ []) = do
  region ← told kinds.Number (number_in region)
  _ ← holds kinds.Range (nat_lt region regions)
  Ok region
large_line regions _ = Err kinds.Line

-- accept FIRST COUNT
abbrev pub accept_line : ℕ → Fields → Result Span ImageKind
accept_line regions (first ∷ count ∷ []) = do
  first ← told kinds.Number (number_in first)
  count ← told kinds.Number (number_in count)
  _ ← holds kinds.Range (is_run regions first count)
  Ok (record { first = record { 0 = first }; count = count })
accept_line regions _ = Err kinds.Line

-- the fields of a core's VMPL: none where the image has one VMPL, else `vmpl U`
abbrev pub is_level_form : Option Vmpl → Fields → Bool
is_level_form None [] = true
is_level_form (Some second) (word ∷ level ∷ []) = bytes_eq word (codes "vmpl")
is_level_form _ _ = false

-- the number of a core's VMPL
abbrev pub level_in : Image → Fields → Option ℕ
level_in image (word ∷ level ∷ []) = number_in level
level_in image _ = Some image.vmpl.0

-- the VMPL of the image with this number
abbrev pub level_of : Image → ℕ → Option Vmpl
level_of image number = if is_level image (record { 0 = number }) then Some (record { 0 = number }) else None

-- core APIC parked, core APIC parked vmpl U
abbrev pub parked_in : Image → List ℕ → Fields → Result CoreLine ImageKind
parked_in image apic level = do
  _ ← holds kinds.Line (is_level_form image.second level)
  apic ← told kinds.Number (number_in apic)
  level ← told kinds.Number (level_in image level)
  _ ← holds kinds.Range (nat_lt apic (2 ^ 32))
  vmpl ← told kinds.Range (level_of image level)
  Ok (record { apic = apic; seat = None; vmpl = vmpl })

-- a VMSA page begins at its address, a calling area at a multiple of 8, both in the map
abbrev pub is_seat : ℕ → ℕ → ℕ → Bool
is_seat regions vmsa area =
    (is_multiple 4096 vmsa && is_in_map regions (page_of vmsa)) && (is_multiple 8 area && is_in_map regions (page_of area))

-- core APIC vmsa GPA caa GPA, core APIC vmsa GPA caa GPA vmpl U
abbrev pub seated_in : Image → List ℕ → List ℕ → List ℕ → List ℕ → List ℕ → Fields → Result CoreLine ImageKind
seated_in image apic vmsa page caa area level = do
  _ ← holds kinds.Line (bytes_eq vmsa (codes "vmsa") && (bytes_eq caa (codes "caa") && is_level_form image.second level))
  apic ← told kinds.Number (number_in apic)
  page ← told kinds.Number (number_in page)
  area ← told kinds.Number (number_in area)
  level ← told kinds.Number (level_in image level)
  _ ← holds kinds.Range (nat_lt apic (2 ^ 32) && is_seat image.regions page area)
  vmpl ← told kinds.Range (level_of image level)
  Ok (record { apic = apic; seat = Some (record { 0 = page_of page }, record { 0 = area }); vmpl = vmpl })

-- a `core` line with a seat: VMSA page, pending byte, calling area and a level
abbrev pub seated_line : Image → List ℕ → List ℕ → Fields → Result CoreLine ImageKind
seated_line image apic vmsa (page ∷ caa ∷ area ∷ level) = seated_in image apic vmsa page caa area level
seated_line image apic vmsa _ = Err kinds.Line

-- `core APIC parked ..` or `core APIC PAGE CAA AREA ..`
abbrev pub core_line : Image → Fields → Result CoreLine ImageKind
core_line image (apic ∷ word ∷ fields) =
    if bytes_eq word (codes "parked") then parked_in image apic fields else seated_line image apic word fields
core_line image _ = Err kinds.Line

-- so many words, each of 8 bytes, the least byte first
unfoldable pub words_in : ℕ → List ℕ → List ℕ
words_in zero bytes = []
words_in (suc n) bytes = from_le_bytes w64 (take 8 bytes) ∷ words_in n (drop 8 bytes)

-- the quadwords in a list of bytes
unfoldable pub words_in_bytes : List ℕ → List ℕ
words_in_bytes bytes = words_in (length bytes / 8) bytes

-- one word or more, and no byte besides
abbrev pub whole_words : Result (List ℕ) FromHexError → Option (List ℕ)
whole_words (Ok bytes) = if nat_lt 0 (length bytes) && length bytes % 8 == 0 then Some bytes else None
whole_words (Err _) = None

-- bytes GPA DIGITS
abbrev pub fill_in : ℕ → List ℕ → List ℕ → Result Fill ImageKind
fill_in regions gpa digits = do
  gpa ← told kinds.Number (number_in gpa)
  bytes ← told kinds.Number (whole_words (decode_of digits))
  _ ← holds kinds.Range (is_multiple 8 gpa && nat_le (gpa + length bytes) (4096 * (512 * regions)))
  Ok (record { gpa = record { 0 = gpa }; words = words_in_bytes bytes })

-- `bytes GPA DIGITS`: words from this address on
abbrev pub fill_line : ℕ → Fields → Result Fill ImageKind
fill_line regions (gpa ∷ digits ∷ []) = fill_in regions gpa digits
fill_line regions _ = Err kinds.Line

-- fault REGION N
abbrev pub fault_line : ℕ → Fields → Result FaultAt ImageKind
fault_line regions (region ∷ number ∷ []) = do
  region ← told kinds.Number (number_in region)
  number ← told kinds.Number (number_in number)
  _ ← holds kinds.Range (nat_lt region regions)
  Ok (record { region = region; number = number })
fault_line regions _ = Err kinds.Line

-- host info V, host features V, host share V, host ghcb V, host step N
abbrev pub host_value : ValueWord → ℕ → HostLine
host_value values.Info value = host.Info value
host_value values.Features value = host.Features value
host_value values.Share value = host.Share value
host_value values.Ghcb value = host.Ghcb value
host_value values.Step most = host.Pace most

-- host ap I ERROR
abbrev pub ap_in : List ℕ → List ℕ → List ℕ → Result HostLine ImageKind
ap_in word number error = do
  _ ← holds kinds.Line (bytes_eq word (codes "ap"))
  number ← told kinds.Number (number_in number)
  error ← told kinds.Number (number_in error)
  Ok (host.Ap number error)

-- host exit I CUR ERROR, host change I K V, host run CORE I V
abbrev pub event_of : EventWord → ℕ → ℕ → ℕ → HostLine
event_of events.Exit number cur error = host.Exit number cur error
event_of events.Change number index word = host.Change number index word
event_of events.Run core number got = host.Run core number got

-- a host line whose numbers are in their limits
abbrev pub limited : HostLine → Result HostLine ImageKind
limited line = do
  _ ← holds kinds.Range (is_in_limits line)
  Ok line

-- a `host` line with one number
abbrev pub value_in : List ℕ → List ℕ → Result HostLine ImageKind
value_in word value = do
  word ← told kinds.Line (value_word word)
  value ← told kinds.Number (number_in value)
  limited (host_value word value)

-- a `host` line of an event with three numbers
abbrev pub event_in : List ℕ → List ℕ → List ℕ → List ℕ → Result HostLine ImageKind
event_in word a b c = do
  word ← told kinds.Line (event_word word)
  a ← told kinds.Number (number_in a)
  b ← told kinds.Number (number_in b)
  c ← told kinds.Number (number_in c)
  limited (event_of word a b c)

-- a `host` line by the number of its fields
abbrev pub host_line : Fields → Result HostLine ImageKind
host_line (word ∷ value ∷ []) = value_in word value
host_line (word ∷ number ∷ error ∷ []) = ap_in word number error
host_line (word ∷ a ∷ b ∷ c ∷ []) = event_in word a b c
host_line _ = Err kinds.Line

-- pool split
abbrev pub pool_line : Fields → Result (Unit {0}) ImageKind
pool_line (split ∷ []) = holds kinds.Line (bytes_eq split (codes "split"))
pool_line _ = Err kinds.Line

-- 0x0 for 4K, 0x1 for 2M
abbrev pub size_of : ℕ → Option Size
size_of number = if number == 0 then Some Small else if number == 1 then Some Large else None

-- block PAGE SIZE
abbrev pub block_line : ℕ → Fields → Result (Page × Size) ImageKind
block_line regions (page ∷ size ∷ []) = do
  page ← told kinds.Number (number_in page)
  size ← told kinds.Number (number_in size)
  _ ← holds kinds.Range (is_in_map regions page)
  size ← told kinds.Range (size_of size)
  Ok (record { 0 = page }, size)
block_line regions _ = Err kinds.Line

-- announce
abbrev pub announce_line : Fields → Result (Unit {0}) ImageKind
announce_line fields = holds kinds.Line (length fields == 0)

-- THE TABLE OF FORMS

-- a line of one kind as an item of the image
abbrev pub as_item : {A : Type 0} → (A → Item) → Result A ImageKind → Result Item ImageKind
as_item item (Ok x) = Ok (item x)
as_item item (Err kind) = Err kind

-- a line by its first word
abbrev pub form_of : Image → Option LineWord → Fields → Result Item ImageKind
form_of image (Some lines.Range) fields = as_item items.Range (range_line image.regions fields)
form_of image (Some lines.Large) fields = as_item items.Large (large_line image.regions fields)
form_of image (Some lines.Accept) fields = as_item items.Accept (accept_line image.regions fields)
form_of image (Some lines.Core) fields = as_item items.Core (core_line image fields)
form_of image (Some lines.Bytes) fields = as_item items.Bytes (fill_line image.regions fields)
form_of image (Some lines.Fault) fields = as_item items.Fault (fault_line image.regions fields)
form_of image (Some lines.Host) fields = as_item items.Host (host_line fields)
form_of image (Some lines.Pool) fields = as_item (λ _. items.Split) (pool_line fields)
form_of image (Some lines.Block) fields = as_item items.Block (block_line image.regions fields)
form_of image (Some lines.Announce) fields = as_item (λ _. items.Announce) (announce_line fields)
form_of image None fields = Err kinds.Line

-- what a line behind the first five tells by itself; of the image it looks at what those five say
abbrev pub item_line : Image → Fields → Result Item ImageKind
item_line image [] = Err kinds.Line
item_line image (word ∷ fields) = form_of image (line_word word) fields
