-- The entries of accepted spans as words, in batches.
use Rattle.std.specs.Prelude.{ℕ, ◌+◌, ◌*◌, ◌/◌, ◌^◌, ◌≤◌, List, map, length, take, drop}
use Rattle.std.specs.List.{range_with_len, flat_map}
use Rattle.svsm_types.specs.declared.image.Span.{Span}
use Rattle.svsm_types.specs.declared.platform.Size.{Size}
use Rattle.svsm_types.specs.declared.platform.Size.TheVariants.{Small, Large}
use Rattle.svsm_steps.specs.Image.{entries_between}

-- the entries of spans, in order; those of an image's accept spans are its accept entries
abbrev pub span_entries : List Span → List (ℕ × Size)
span_entries spans = flat_map (λ (span : Span). entries_between span.first.0 (span.first.0 + span.count)) spans

-- page size of an entry, bit 56: 0 for 4K, 1 for 2M
abbrev pub size_bit : Size → ℕ
size_bit Small = 0
size_bit Large = 1

-- an entry as a word (AMD 56421, 'SNP Page State Change'): the page in bits 51:12, operation 1 (private) in 55:52, bit 56 for 2M; its
-- current page, bits 11:0, is 0
abbrev pub entry_word : ℕ × Size → ℕ
entry_word entry = entry.0 * 2 ^ 12 + (2 ^ 52 + size_bit entry.1 * 2 ^ 56)

-- the entries of spans, as they stand in the page
abbrev pub entry_words : List Span → List ℕ
entry_words spans = map entry_word (span_entries spans)

-- the batch with a number: the buffer has room for 253 words, so the last batch alone may have fewer
abbrev pub batch_at : List ℕ → ℕ → List ℕ
batch_at words number = take 253 (drop (253 * number) words)

-- words in batches, in order
abbrev pub batches_of : List ℕ → List (List ℕ)
batches_of words = map (batch_at words) (range_with_len 0 ((length words + 252) / 253))

-- an entry has room for page numbers below 2^40
abbrev pub IsLow : Span → Type 0
IsLow span = span.first.0 + span.count ≤ 2 ^ 40
