-- How exits end against a host that answers by the lines of an image.
use Rattle.std.specs.Prelude.{◌≡◌, ℕ, ◌+◌, ◌^◌, ◌<◌, ⊤, Option, None, Some, Result, Ok, Err, List, [], ◌∷◌, length, map}
use Rattle.svsm_types.specs.declared.image.HostLine.{HostLine}
use Rattle.svsm_types.specs.declared.image.CoreLine.{CoreLine}
use Rattle.svsm_steps.specs.Announced.{Announced, ap_error, refused_at}
use Rattle.ghcb_page.specs.Bytes.{with_u64}
use Rattle.psc_batch.specs.Host.{HostEvent, asked, exited}
use Rattle.ap_start.specs.declared.exits.ApError.{ApError}
use Rattle.ap_start.specs.declared.exits.ApError.TheVariants.{Said}
use Rattle.ap_start.specs.Exits.{exit_of}
use Rattle.ap_start.specs.Announced.{IsAnnounced}

-- the host gives each exit back with the first info value 0 and its error as the second, a word, and changes nothing else. The pages
-- have their size
abbrev pub AnswersBy : List HostLine → ℕ → List HostEvent → Type 0
AnswersBy lines number [] = ⊤
AnswersBy lines number (asked sent got ∷ events) = AnswersBy lines number events
AnswersBy lines number (exited sent got ∷ events) =
    (length sent ≡ 4096) × (ap_error lines number < 2 ^ 64) × (got ≡ with_u64 0x3A0 (ap_error lines number) (with_u64 0x398 0 sent))
    × AnswersBy lines (number + 1) events

-- the end of exits the first of which has this number over the run, and of which the host took so many before it refused one
abbrev pub end_by : List HostLine → ℕ → Option ℕ → Result (Unit {0}) ApError
end_by lines number None = Ok tt
end_by lines number (Some refused) = Err (Said refused 0 (ap_error lines (number + refused)))

-- the exits of a wave end as the lines say
abbrev pub EndsAsDue : Type 0
EndsAsDue =
    (lines : List HostLine) (features number : ℕ) (cores : List CoreLine) (told : List Announced) (page : List ℕ) (events : List HostEvent)
    (result : Result (Unit {0}) ApError) (new : List ℕ)
    → IsAnnounced features (map (exit_of cores) told) page events result new → AnswersBy lines number events
    → result ≡ end_by lines number (refused_at lines number told)
