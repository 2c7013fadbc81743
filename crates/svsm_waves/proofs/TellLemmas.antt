-- The host of an image's lines answers the exits that announce vCPUs.
use Rattle.std.proofs.Common.{◌≡◌, ℕ, ◌+◌, ◌-◌, ◌<◌, ◌≤◌, Bool, true, false, cond, Result, List, [], ◌∷◌, length, map, refl, sym, ap, subst, ◌∙◌, arith}
use Rattle.std.specs.Prelude.{◌==◌, ◌^◌, replicate}
use Rattle.std.proofs.lemmas.List.{length-replicate}
use Rattle.std.specs.Int.{w64, to_le_bytes}
use Rattle.svsm_steps.specs.Announced.{Announced, ap_error, refused_at}
use Rattle.svsm_types.specs.declared.image.CoreLine.{CoreLine}
use Rattle.svsm_types.specs.declared.image.Image.{Image}
use Rattle.ghcb_page.specs.Bytes.{with_u64}
use Rattle.ghcb_page.proofs.ReadLemmas.{still_page, begun_ap_long, begun_ap_code}
use Rattle.psc_batch.specs.Host.{HostEvent, asked, exited, Leads}
use Rattle.boot_core.specs.Sim.{Sim, SimAnswers, SimReturns, is_creation, ap_return, one_later, given_back, host_after, sim_return, host_behind}
use Rattle.ap_start.specs.declared.exits.ApExit.{ApExit}
use Rattle.ap_start.specs.declared.exits.ApError.{ApError}
use Rattle.ap_start.specs.Exits.{exit_info, exit_address, exit_of}
use Rattle.ap_start.specs.Announced.{Sends, IsAnnounced}
use Rattle.ap_start.specs.Due.{AnswersBy, end_by}
use Rattle.ap_start.proofs.DueLemmas.{ends_as_due}

next_count : (count : ℕ) → count + 1 < 2 ^ 64 → one_later count ≡ count + 1
next_count count low = omega (arith, low)

abbrev behind_ap : Sim → Sim
behind_ap host = record { lines = host.lines; exits = host.exits; aps = one_later host.aps }

given : (host : Sim) (sent : List ℕ) (b : Bool) → b ≡ true → cond b (ap_return host.lines host.aps sent) (sim_return host.lines host.exits sent) ≡ ap_return host.lines host.aps sent
given host sent true h = refl
given host sent false h = cc

behind : (host : Sim) (b : Bool) → b ≡ true → cond b (behind_ap host) (record { lines = host.lines; exits = one_later host.exits; aps = host.aps }) ≡ behind_ap host
behind host true h = refl
behind host false h = cc

same_code : (code : ℕ) → code ≡ 0x80000013 → (code == 0x80000013) ≡ true
same_code code h = subst (λ (n : ℕ). (n == 0x80000013) ≡ true) (sym h) refl

returned_long : (sent got : List ℕ) (error : ℕ) → length sent ≡ 4096 → got ≡ with_u64 0x3A0 error (with_u64 0x398 0 sent) → length got ≡ 4096
returned_long sent got error long is =
    ap length is ∙ still_page 0x3A0 (to_le_bytes w64 error) (with_u64 0x398 0 sent) (omega arith) (still_page 0x398 (to_le_bytes w64 0) sent (omega arith) long)

answers_by : (features : ℕ) (exits : List ApExit) (page : List ℕ) (events : List HostEvent) (host end : Sim) → length page ≡ 4096 → host.aps + length exits < 2 ^ 64
    → Leads SimAnswers SimReturns host events end → Sends features exits page events → AnswersBy host.lines host.aps events
answers_by features exits page [] host end long few leads sends = tt
answers_by features [] page (asked sent got ∷ events) host end long few leads sends = absurd sends
answers_by features (exit ∷ exits) page (asked sent got ∷ events) host end long few leads sends = absurd sends
answers_by features [] page (exited sent got ∷ events) host end long few leads sends = absurd sends
answers_by features (exit ∷ exits) page (exited sent got ∷ events) host end long few leads sends =
    let sent_long : length sent ≡ 4096 = ap length sends.0 ∙ begun_ap_long features (exit_info exit) (exit_address exit) page long in
    let creation : is_creation sent ≡ true =
    ap is_creation sends.0 ∙ same_code _ (begun_ap_code features (exit_info exit) (exit_address exit) page long) in
    let got_is : got ≡ ap_return host.lines host.aps sent = leads.1.0 ∙ given host sent (is_creation sent) creation in
    let mid_is : leads.0 ≡ behind_ap host = leads.1.1 ∙ behind host (is_creation sent) creation in
    let next : one_later host.aps ≡ host.aps + 1 = next_count host.aps (omega arith) in
    let counted : leads.0.aps ≡ host.aps + 1 = ap (λ (h : Sim). h.aps) mid_is ∙ next in
    let later : AnswersBy leads.0.lines leads.0.aps events =
    answers_by features exits got events leads.0 end (returned_long sent got (ap_error host.lines host.aps) sent_long got_is) (omega (arith, counted, few)) leads.2 sends.1 in (
      sent_long,
      leads.1.2 creation,
      got_is,
      subst (λ (n : ℕ). AnswersBy host.lines n events) next (subst (λ (h : Sim). AnswersBy h.lines h.aps events) mid_is later),
    )

-- so they end as the lines say
pub ends_so : (features : ℕ) (cores : List CoreLine) (told : List Announced) (exits : List ApExit) (page new : List ℕ) (events : List HostEvent) (host end : Sim)
    (result : Result (Unit {0}) ApError) → exits ≡ map (exit_of cores) told → length page ≡ 4096 → host.aps + length exits < 2 ^ 64
    → Leads SimAnswers SimReturns host events end → IsAnnounced features exits page events result new
    → result ≡ end_by host.lines host.aps (refused_at host.lines host.aps told)
ends_so features cores told exits page new events host end result are long few leads is =
    ends_as_due host.lines features host.aps cores told page events result new
    (subst (λ (es : List ApExit). IsAnnounced features es page events result new) are is)
    (answers_by features exits page events host end long few leads is.sends)

-- against the host of an image that took so many before
pub ends_behind : (image : Image) (number : ℕ) (told : List Announced) (exits : List ApExit) (page new : List ℕ) (events : List HostEvent) (host end : Sim)
    (result : Result (Unit {0}) ApError) → host ≡ host_behind image number → exits ≡ map (exit_of image.cores) told → page ≡ replicate 4096 0
    → number + length exits < 2 ^ 64 → Leads SimAnswers SimReturns host events end → IsAnnounced image.features exits page events result new
    → result ≡ end_by image.host number (refused_at image.host number told)
ends_behind image number told exits page new events host end result same are blank few leads is =
    let count : host.aps ≡ number = ap (λ (h : Sim). h.aps) same in
    subst (λ (h : Sim). result ≡ end_by h.lines h.aps (refused_at h.lines h.aps told)) same
    (ends_so image.features image.cores told exits page new events host end result are (ap length blank ∙ length-replicate {A = ℕ} 4096 0)
    (subst (λ (n : ℕ). n + length exits < 2 ^ 64) (sym count) few) leads is)
