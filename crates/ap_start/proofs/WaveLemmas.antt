-- The exits of a wave, row by row.
use Rattle.std.proofs.Common.{◌≡◌, ℕ, Bool, true, false, cond, List, [], ◌∷◌, ◌++◌, map, refl, sym, ap, ◌∙◌, append_assoc}
use Rattle.std.specs.Prelude.{not, ◌&&◌, filter}
use Rattle.std.proofs.lemmas.List.{map-append}
use Rattle.std.proofs.lemmas.List.Elements.{filter-append}
use Rattle.svsm_types.specs.declared.image.CoreLine.{CoreLine}
use Rattle.svsm_types.specs.declared.vcpu.Row.{Row}
use Rattle.svsm_steps.specs.Announced.{LivePair, Announced, live_pairs, is_live, exits_between}
use Rattle.ap_start.specs.declared.exits.ApExit.{ApExit}
use Rattle.ap_start.specs.Exits.{exit_of}
use Rattle.ap_start.specs.Wave.{is_standing, pair_of, only_live}

module _ (create : Bool) (others : List Row) where
  abbrev stays : LivePair → Bool
  stays pair = not (is_live (live_pairs others) pair)

  abbrev announced : LivePair → Announced
  announced pair = record { create = create; pair = pair }

  only_more : (rows : List Row) (row : Row) → only_live create (rows ++ row ∷ []) others ≡ only_live create rows others ++ only_live create (row ∷ []) others
  only_more rows row =
      let first : List LivePair = live_pairs rows in
      let last : List LivePair = live_pairs (row ∷ []) in
      ap (λ (l : List Row). map announced (filter stays (map pair_of l))) (filter-append is_standing rows (row ∷ []))
      ∙ (ap (λ (l : List LivePair). map announced (filter stays l)) (map-append pair_of (filter is_standing rows) (filter is_standing (row ∷ [])))
      ∙ (ap (map announced) (filter-append stays first last)
      ∙ map-append announced (filter stays first) (filter stays last)))

-- one more row
pub exits_more : (cores : List CoreLine) (create : Bool) (others rows : List Row) (row : Row) (before : List ApExit)
    → (before ++ map (exit_of cores) (only_live create rows others)) ++ map (exit_of cores) (only_live create (row ∷ []) others)
    ≡ before ++ map (exit_of cores) (only_live create (rows ++ row ∷ []) others)
exits_more cores create others rows row before =
    let first : List ApExit = map (exit_of cores) (only_live create rows others) in
    let last : List ApExit = map (exit_of cores) (only_live create (row ∷ []) others) in
    append_assoc before first last
    ∙ ap (λ (l : List ApExit). before ++ l)
    (sym (ap (map (exit_of cores)) (only_more create others rows row) ∙ map-append (exit_of cores) (only_live create rows others) (only_live create (row ∷ []) others)))

-- a row by itself
pub one_if : (cores : List CoreLine) (create : Bool) (others : List Row) (row : Row) (standing among : Bool)
    → standing ≡ is_standing row → among ≡ is_live (live_pairs others) (pair_of row)
    → map (exit_of cores) (only_live create (row ∷ []) others)
    ≡ cond (standing && not among) (exit_of cores (record { create = create; pair = pair_of row }) ∷ []) []
one_if cores create others row true true is live = rw (sym is, sym live) refl
one_if cores create others row true false is live = rw (sym is, sym live) refl
one_if cores create others row false among is live = rw (sym is) refl

-- both halves
pub exits_are : (cores : List CoreLine) (before after : List Row)
    → map (exit_of cores) (exits_between before after) ≡ map (exit_of cores) (only_live false before after) ++ map (exit_of cores) (only_live true after before)
exits_are cores before after = map-append (exit_of cores) (only_live false before after) (only_live true after before)
