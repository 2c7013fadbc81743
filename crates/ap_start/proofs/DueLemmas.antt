-- How exits end against a host that answers by the lines of an image.
use Rattle.std.proofs.Common.{◌≡◌, ℕ, ◌+◌, ◌<◌, ◌≤◌, Bool, true, false, cond, Option, None, Some, Result, Ok, Err, List, [], ◌∷◌, length, map, refl, sym, ap, subst, ◌∙◌, arith}
use Rattle.std.specs.Prelude.{◌==◌, ◌^◌}
use Rattle.std.specs.Int.{w64, to_le_bytes, from_le_bytes}
use Rattle.svsm_types.specs.declared.image.HostLine.{HostLine}
use Rattle.svsm_types.specs.declared.image.CoreLine.{CoreLine}
use Rattle.svsm_steps.specs.Announced.{Announced, ap_error, refused_at, refused_more}
use Rattle.ghcb_page.specs.Bytes.{with_u64, u64_at}
use Rattle.ghcb_page.specs.Fields.{info1_of, info2_of, is_quiet}
use Rattle.ghcb_page.proofs.ReadLemmas.{read_before, read_number, still_page}
use Rattle.psc_batch.specs.Host.{HostEvent, asked, exited}
use Rattle.ap_start.specs.declared.exits.ApExit.{ApExit}
use Rattle.ap_start.specs.declared.exits.ApError.{ApError}
use Rattle.ap_start.specs.declared.exits.ApError.TheVariants.{Said}
use Rattle.ap_start.specs.Exits.{exit_of}
use Rattle.ap_start.specs.Announced.{Sends, refusal_from, StopsAt}
use Rattle.ap_start.specs.Due.{AnswersBy, end_by, EndsAsDue}

abbrev said_at : ℕ → List ℕ → Result (Unit {0}) ApError
said_at index got = Err (Said index (info1_of got) (info2_of got))

abbrev end_with : ℕ → ℕ → Result (Unit {0}) ApError
end_with index error = Err (Said index 0 error)

-- the end where the exits before took this many
abbrev end_behind : List HostLine → ℕ → ℕ → Option ℕ → Result (Unit {0}) ApError
end_behind lines number index None = Ok tt
end_behind lines number index (Some refused) = Err (Said (index + refused) 0 (ap_error lines (number + refused)))

-- THE INFO VALUES

record Answered (got : List ℕ) (error : ℕ) : Type 0 where
  info1 : info1_of got ≡ 0
  info2 : info2_of got ≡ error

answered : (sent : List ℕ) (error : ℕ) → length sent ≡ 4096 → error < 2 ^ 64 → Answered (with_u64 0x3A0 error (with_u64 0x398 0 sent)) error
unfolding u64_at
answered sent error long fits =
    let mid : List ℕ = with_u64 0x398 0 sent in
    let mid_long : length mid ≡ 4096 = still_page 0x398 (to_le_bytes w64 0) sent (omega arith) long in
    record {
      info1 = ap (from_le_bytes w64) (read_before 0x3A0 0x398 (to_le_bytes w64 error) mid (omega (arith, mid_long)) (omega arith))
          ∙ read_number 0x398 0 sent (omega (arith, long)) (omega arith);
      info2 = read_number 0x3A0 error mid (omega (arith, mid_long)) fits;
    }

quiet_by : (got : List ℕ) (error : ℕ) → Answered got error → is_quiet got ≡ (error == 0)
quiet_by got error h = rw (h.info1, h.info2) refl

-- ONE EXIT AFTER ANOTHER

shifted : (lines : List HostLine) (number index : ℕ) (refused : Option ℕ)
    → end_behind lines (number + 1) (index + 1) refused ≡ end_behind lines number index (refused_more refused)
shifted lines number index None = refl
shifted lines number index (Some refused) =
    let at : index + 1 + refused ≡ index + (refused + 1) = omega arith in
    let one : number + 1 + refused ≡ number + (refused + 1) = omega arith in
    ap (λ (n : ℕ). end_with n (ap_error lines (number + 1 + refused))) at ∙ ap (λ (n : ℕ). end_with (index + (refused + 1)) (ap_error lines n)) one

refused_here : (lines : List HostLine) (number index : ℕ) (got : List ℕ) → Answered got (ap_error lines number)
    → said_at index got ≡ end_behind lines number index (Some 0)
refused_here lines number index got h =
    let at : index ≡ index + 0 = omega arith in
    let one : number ≡ number + 0 = omega arith in
    rw (h.info1, h.info2) (ap (λ (n : ℕ). end_with n (ap_error lines number)) at ∙ ap (λ (n : ℕ). end_with (index + 0) (ap_error lines n)) one)

stops_later : (index : ℕ) (exit : ApExit) (exits : List ApExit) (event : HostEvent) (events : List HostEvent) (result : Result (Unit {0}) ApError)
    → StopsAt index (exit ∷ exits) (event ∷ events) result → StopsAt (index + 1) exits events result
stops_later index exit exits event events (Ok done) h = omega arith
stops_later index exit exits event events (Err (Said refused info1 info2)) h = omega arith

no_stop : (index : ℕ) (exit : ApExit) (exits : List ApExit) → StopsAt index (exit ∷ exits) [] (Ok tt) → ⊥
no_stop index exit exits h = let wrong : 0 ≡ length (exit ∷ exits) = h in absurd (omega arith)

one_by : (lines : List HostLine) (number index : ℕ) (quiet : Bool) (got : List ℕ) (events : List HostEvent) (told : List Announced)
    → Answered got (ap_error lines number)
    → (quiet ≡ true → refusal_from (index + 1) events ≡ end_behind lines (number + 1) (index + 1) (refused_at lines (number + 1) told))
    → cond quiet (refusal_from (index + 1) events) (said_at index got)
    ≡ end_behind lines number index (cond quiet (refused_more (refused_at lines (number + 1) told)) (Some 0))
one_by lines number index true got events told is later = later refl ∙ shifted lines number index (refused_at lines (number + 1) told)
one_by lines number index false got events told is later = refused_here lines number index got is

module _ (lines : List HostLine) (features : ℕ) (cores : List CoreLine) where
  ends_from : (number index : ℕ) (told : List Announced) (page : List ℕ) (events : List HostEvent) (result : Result (Unit {0}) ApError)
      → Sends features (map (exit_of cores) told) page events → result ≡ refusal_from index events
      → StopsAt index (map (exit_of cores) told) events result → AnswersBy lines number events
      → refusal_from index events ≡ end_behind lines number index (refused_at lines number told)
  ends_from number index [] page [] result sends said stops answers = refl
  ends_from number index [] page (asked sent got ∷ events) result sends said stops answers = absurd sends
  ends_from number index [] page (exited sent got ∷ events) result sends said stops answers = absurd sends
  ends_from number index (exit ∷ told) page [] result sends said stops answers =
      absurd (no_stop index (exit_of cores exit) (map (exit_of cores) told) (subst (λ r. StopsAt index (exit_of cores exit ∷ map (exit_of cores) told) [] r) said stops))
  ends_from number index (exit ∷ told) page (asked sent got ∷ events) result sends said stops answers = absurd sends
  ends_from number index (exit ∷ told) page (exited sent got ∷ events) result sends said stops answers =
      let error : ℕ = ap_error lines number in
      let is : Answered got error = subst (λ (g : List ℕ). Answered g error) (sym answers.2) (answered sent error answers.0 answers.1) in
      let same : is_quiet got ≡ (error == 0) = quiet_by got error is in
      ap (λ (q : Bool). cond q (refusal_from (index + 1) events) (said_at index got)) same
      ∙ one_by lines number index (error == 0) got events told is
      (λ yes. ends_from (number + 1) (index + 1) told got events result sends.1
      (said ∙ ap (λ (q : Bool). cond q (refusal_from (index + 1) events) (said_at index got)) (same ∙ yes))
      (stops_later index (exit_of cores exit) (map (exit_of cores) told) (exited sent got) events result stops) answers.3)

whole : (lines : List HostLine) (number : ℕ) (refused : Option ℕ) → end_behind lines number 0 refused ≡ end_by lines number refused
whole lines number None = refl
whole lines number (Some refused) = let e : 0 + refused ≡ refused = omega arith in ap (λ (n : ℕ). end_with n (ap_error lines (number + refused))) e

pub ends_as_due : EndsAsDue
ends_as_due lines features number cores told page events result new is answers =
    is.said ∙ (ends_from lines features cores number 0 told page events result is.sends is.said is.stops answers
    ∙ whole lines number (refused_at lines number told))
