-- One more entry, and one more batch.
use Rattle.std.proofs.Common.{◌≡◌, ℕ, ◌+◌, ◌-◌, ◌≤◌, List, [], ◌∷◌, ◌++◌, map, ◌∙◌, sym, ap, arith, append_assoc}
use Rattle.std.specs.List.{range_with_len}
use Rattle.std.proofs.lemmas.List.{map-append}
use Rattle.std.proofs.lemmas.List.FromFn.{map-range_with_len_more}
use Rattle.svsm_types.specs.declared.platform.Size.{Size}
use Rattle.psc_batch.specs.Entries.{entry_word, batch_at}

-- the words of the entries so far, and of the next one
pub one_more : (f : ℕ → ℕ × Size) (old now new : List ℕ) (a at : ℕ) (word : ℕ) → a ≤ at → now ≡ old ++ map entry_word (map f (range_with_len a (at - a))) → word ≡ entry_word (f at) → new ≡ now ++ word ∷ [] → new ≡ old ++ map entry_word (map f (range_with_len a (at + 1 - a)))
one_more f old now new a at word low so_far is more =
    let count : at + 1 - a ≡ (at - a) + 1 = omega arith in
    more ∙ (ap (λ w. now ++ w ∷ []) is ∙ (ap (λ ws. ws ++ entry_word (f at) ∷ []) so_far
    ∙ (append_assoc old (map entry_word (map f (range_with_len a (at - a)))) (entry_word (f at) ∷ []) ∙ ap (λ ws. old ++ ws) (sym (map-append entry_word (map f (range_with_len a (at - a))) (f at ∷ [])) ∙ ap (map entry_word) (sym (map-range_with_len_more f a (at - a) at (omega arith)) ∙ ap (λ n. map f (range_with_len a n)) (sym count))))))

pub one_more_batch : (words : List ℕ) (now new : List (List ℕ)) (number : ℕ) (batch : List ℕ) → now ≡ map (batch_at words) (range_with_len 0 number) → batch ≡ batch_at words number → new ≡ now ++ batch ∷ [] → new ≡ map (batch_at words) (range_with_len 0 (number + 1))
one_more_batch words now new number batch so_far is more =
    more ∙ (ap (λ b. now ++ b ∷ []) is ∙ (ap (λ bs. bs ++ batch_at words number ∷ []) so_far ∙ sym (map-range_with_len_more (batch_at words) 0 number number (omega arith))))
