-- The requests of a boot in the GHCB MSR (AMD 56421, 'GHCB MSR protocol'); their order and conditions are this module's own.
use Rattle.std.specs.Prelude.{◌≡◌, ℕ, ◌==◌, nat_le, Bool, true, false, not, ◌&&◌, ◌||◌, Option, None, Some, Result, Ok, Err, List, [], ◌∷◌, ◌++◌, MatchBool}
use Rattle.ghcb_msr.specs.declared.request.MsrRequest.TheVariants as Request
use Rattle.ghcb_msr.specs.declared.request.MsrReply.{MsrReply}
use Rattle.ghcb_msr.specs.declared.request.MsrReply.TheVariants as Reply
use Rattle.ghcb_msr.specs.Msr.{sent as sent_of, reply_to, bits}
use Rattle.psc_batch.specs.Host.{HostEvent, asked, exited}
use Rattle.boot_core.specs.declared.error.BootError.{BootError}
use Rattle.boot_core.specs.declared.error.BootError.TheVariants.{Msr}
use Rattle.boot_core.specs.declared.asks.Ask.{Ask}

-- what the module boots with: version 2 of the protocol, and the features SEV-SNP (bit 0), multi-VMPL (bit 5), and where vCPUs are announced
-- AP creation (bit 1)
abbrev pub is_met : Bool → MsrReply → Bool
is_met announce (Reply.Info greatest least cbit) = nat_le least 2 && nat_le 2 greatest
is_met announce (Reply.Features features) =
    (bits 0 1 features == 1) && ((bits 5 1 features == 1) && (not announce || (bits 1 1 features == 1)))
is_met announce Reply.Registered = true
is_met announce Reply.Changed = true
is_met announce Reply.Ran = true

-- whether an answer came and meets what is asked
abbrev pub is_met_if : Bool → Option MsrReply → Bool
is_met_if announce None = false
is_met_if announce (Some reply) = is_met announce reply

-- an answer is right, and one that the module boots with
abbrev pub is_right : Ask → ℕ → Bool
is_right ask got = is_met_if ask.announce (reply_to ask.request got)

-- Terminate of set 0 with a reason, and nothing after it, whatever comes back
abbrev pub Terminates : ℕ → List HostEvent → Type 0
Terminates reason [] = ⊥
Terminates reason (exited sent got ∷ events) = ⊥
Terminates reason (asked sent got ∷ events) = (sent ≡ sent_of (Request.Terminate 0 reason)) × (events ≡ [])

-- the requests are sent one after another; the first answer that is not right ends the boot, after Terminate
abbrev pub Asks : List Ask → List HostEvent → Result (Unit {0}) BootError → Type 0
Asks [] events result = (events ≡ []) × (result ≡ Ok tt)
Asks (ask ∷ asks) [] result = ⊥
Asks (ask ∷ asks) (exited sent got ∷ events) result = ⊥
Asks (ask ∷ asks) (asked sent got ∷ events) result =
    (sent ≡ sent_of ask.request)
    × MatchBool (is_right ask got) (Asks asks events result) (Terminates ask.reason events × (result ≡ Err (Msr sent got)))

-- the requests of a boot, each with the reason of the Terminate that follows a wrong answer: 1 is the protocol's range, 2 the features,
-- 0 general. After the third the host has shared the GHCB page (operation 2)
abbrev pub first_asks : Bool → ℕ → List Ask
first_asks announce page =
    record { request = Request.Info; reason = 1; announce = announce }
    ∷ (record { request = Request.Features; reason = 2; announce = announce }
    ∷ (record { request = Request.Change (record { 0 = page }) 2; reason = 0; announce = announce } ∷ []))

-- the last request: registration of the GHCB page
abbrev pub last_asks : Bool → ℕ → List Ask
last_asks announce page = record { request = Request.Register (record { 0 = page }); reason = 0; announce = announce } ∷ []

-- what the module asks by the GHCB MSR at boot: SEV information, features, the GHCB page shared, and its registration
abbrev pub asks_of : Bool → ℕ → List Ask
asks_of announce page = first_asks announce page ++ last_asks announce page
