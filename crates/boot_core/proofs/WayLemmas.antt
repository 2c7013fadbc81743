-- Against a host whose answers are functions a boot ends in one way.
use Rattle.std.proofs.Common.{◌≡◌, ℕ, Bool, true, false, Option, Some, None, Result, Ok, Err, List, [], ◌∷◌, refl, ◌∙◌, sym, ap, subst, ◌⊎◌, inl, inr}
use Rattle.std.specs.Prelude.{MatchResult, MatchBool}
use Rattle.svsm_types.specs.declared.address.Page.{Page}
use Rattle.svsm_types.specs.declared.image.Image.{Image}
use Rattle.psc_batch.specs.declared.error.PscError.{PscError}
use Rattle.psc_batch.specs.Host.{HostEvent, asked, exited, Leads}
use Rattle.boot_core.specs.declared.asks.Ask.{Ask}
use Rattle.boot_core.specs.declared.error.BootError.{BootError}
use Rattle.boot_core.specs.declared.error.BootError.TheVariants.{Msr, Psc, Fault, NoMemory}
use Rattle.boot_core.specs.Asks.{Terminates, Asks, asks_of, is_right}
use Rattle.boot_core.specs.Entries.{image_batches}
use Rattle.boot_core.specs.Faults.{image_faults}
use Rattle.boot_core.specs.Boots.{AcceptsEnd, BatchEnds, BatchesEnd, SaidAsDue, BootEnds, BootEndsInOneWay, buffer_of, blank_page}
use Rattle.boot_core.specs.Sim.{Sim, SimAnswers, SimReturns, host_of}
use Rattle.boot_core.proofs.SameLemmas.{Leads', asked_same, exchange_same, leads_split}

-- both end so, and the hosts after a good end are the same
abbrev Alike : Result (Unit {0}) BootError → Result (Unit {0}) BootError → Sim → Sim → Type 0
Alike r s k l = (r ≡ s) × (r ≡ Ok tt → k ≡ l)

not_ok : (error : BootError) (T : Type 0) (r : Result (Unit {0}) BootError) → r ≡ Err error → r ≡ Ok tt → T
not_ok error T r e h = cc (e, h)

asks_refused : (asks : List Ask) (xs ys : List HostEvent) (k l : Sim) (r s : Result (Unit {0}) BootError) (b : Bool) (t u g v : ℕ) (reason : ℕ) → t ≡ u → g ≡ v
    → (Asks asks xs r → Asks asks ys s → Alike r s k l)
    → MatchBool b (Asks asks xs r) (Terminates reason xs × (r ≡ Err (Msr t g))) → MatchBool b (Asks asks ys s) (Terminates reason ys × (s ≡ Err (Msr u v))) → Alike r s k l
asks_refused asks xs ys k l r s true t u g v reason e f on h i = on h i
asks_refused asks xs ys k l r s false t u g v reason e f on h i =
    (h.1 ∙ (ap (λ x. Err (Msr x g)) e ∙ (ap (λ x. Err (Msr u x)) f ∙ sym i.1)), not_ok (Msr t g) (k ≡ l) r h.1)

asks_alike : (asks : List Ask) (xs ys : List HostEvent) (h k l : Sim) (r s : Result (Unit {0}) BootError) → Leads' h xs k → Leads' h ys l → Asks asks xs r → Asks asks ys s → Alike r s k l
asks_alike [] xs ys h k l r s a b c d =
    (c.1 ∙ sym d.1, λ _. subst (λ e. Leads' h e k) c.0 a ∙ sym (subst (λ e. Leads' h e l) d.0 b))
asks_alike (ask ∷ asks) [] ys h k l r s a b c d = absurd c
asks_alike (ask ∷ asks) (exited t g ∷ xs) ys h k l r s a b c d = absurd c
asks_alike (ask ∷ asks) (asked t g ∷ xs) [] h k l r s a b c d = absurd d
asks_alike (ask ∷ asks) (asked t g ∷ xs) (exited u v ∷ ys) h k l r s a b c d = absurd d
asks_alike (ask ∷ asks) (asked t g ∷ xs) (asked u v ∷ ys) h k l r s a b c d =
    let same = asked_same h a.0 b.0 t u g v (c.0 ∙ sym d.0) a.1 b.1 in
    let there = subst (λ n. MatchBool (is_right ask n) (Asks asks ys s) (Terminates ask.reason ys × (s ≡ Err (Msr u v)))) (sym same.0) d.1 in
    asks_refused asks xs ys k l r s (is_right ask g) t u g v ask.reason (c.0 ∙ sym d.0) same.0
    (λ p q. asks_alike asks xs ys a.0 k l r s a.2 (subst (λ host. Leads' host ys l) (sym same.1) b.2) p q) c.1 there

accepts_alike : (fault : Option Page) (xs ys : List HostEvent) (h k l : Sim) (r s : Result (Unit {0}) BootError) → Leads' h xs k → Leads' h ys l → AcceptsEnd fault xs r → AcceptsEnd fault ys s → Alike r s k l
accepts_alike None xs ys h k l r s a b c d =
    (c.1 ∙ sym d.1, λ _. subst (λ e. Leads' h e k) c.0 a ∙ sym (subst (λ e. Leads' h e l) d.0 b))
accepts_alike (Some page) xs ys h k l r s a b c d = (c.1 ∙ sym d.1, not_ok (Fault page) (k ≡ l) r c.1)

answer_alike : (fault : Option Page) (xs ys : List HostEvent) (h k l : Sim) (r s : Result (Unit {0}) BootError) (p q : Result (Unit {0}) PscError) → p ≡ q → Leads' h xs k → Leads' h ys l
    → MatchResult p (λ _. AcceptsEnd fault xs r) (λ error. Terminates 0 xs × (r ≡ Err (Psc error))) → MatchResult q (λ _. AcceptsEnd fault ys s) (λ error. Terminates 0 ys × (s ≡ Err (Psc error))) → Alike r s k l
answer_alike fault xs ys h k l r s (Ok done) (Ok fine) e a b c d = accepts_alike fault xs ys h k l r s a b c d
answer_alike fault xs ys h k l r s (Ok done) (Err error) e a b c d = cc e
answer_alike fault xs ys h k l r s (Err error) (Ok done) e a b c d = cc e
answer_alike fault xs ys h k l r s (Err error) (Err other) e a b c d =
    let same : error ≡ other = cc e in
    (c.1 ∙ (ap (λ x. Err (Psc x)) same ∙ sym d.1), not_ok (Psc error) (k ≡ l) r c.1)

record BatchAlike (r s : Result (Unit {0}) BootError) (k l : Sim) (left other : List ℕ) : Type 0 where
  ends : Alike r s k l
  pages : left ≡ other

batch_alike : (buffer : ℕ) (batch page left other : List ℕ) (fault : Option Page) (xs ys : List HostEvent) (h k l : Sim) (r s : Result (Unit {0}) BootError) → Leads' h xs k → Leads' h ys l
    → BatchEnds buffer batch page left fault xs r → BatchEnds buffer batch page other fault ys s → BatchAlike r s k l left other
batch_alike buffer batch page left other fault xs ys h k l r s a b c d =
    let one = leads_split c.exchange c.rest h k (subst (λ e. Leads' h e k) c.said a) in
    let two = leads_split d.exchange d.rest h l (subst (λ e. Leads' h e l) d.said b) in
    let same = exchange_same buffer batch 0 0 page c.exchange d.exchange h one.0 two.0 c.answer d.answer one.1 two.1 c.exchanged.sends d.exchanged.sends c.exchanged.ends d.exchanged.ends in
    record {
      ends = answer_alike fault c.rest d.rest one.0 k l r s c.answer d.answer same.0 one.2 (subst (λ host. Leads' host d.rest l) (sym same.2) two.2) c.then d.then;
      pages = c.exchanged.leaves ∙ (same.1 ∙ sym d.exchanged.leaves);
    }

after : {P Q : Type 0} (r s : Result (Unit {0}) BootError) (xs ys : List HostEvent) (given given' : Result (Unit {0}) BootError) → given ≡ given'
    → MatchResult given (λ _. P) (λ error. (xs ≡ []) × (r ≡ Err error)) → MatchResult given' (λ _. Q) (λ error. (ys ≡ []) × (s ≡ Err error))
    → (given ≡ Ok tt → P → Q → r ≡ s) → r ≡ s
after r s xs ys (Ok done) (Ok fine) e p q on = on refl p q
after r s xs ys (Ok done) (Err error) e p q on = cc e
after r s xs ys (Err error) (Ok done) e p q on = cc e
after r s xs ys (Err error) (Err other) e p q on = p.1 ∙ (e ∙ sym q.1)

batches_alike : (buffer : ℕ) (batches : List (List ℕ)) (faults : List (Option Page)) (page : List ℕ) (xs ys : List HostEvent) (h k l : Sim) (r s : Result (Unit {0}) BootError) → Leads' h xs k → Leads' h ys l
    → BatchesEnd buffer batches faults page xs r → BatchesEnd buffer batches faults page ys s → r ≡ s
batches_alike buffer [] faults page xs ys h k l r s a b c d = c.1 ∙ sym d.1
batches_alike buffer (batch ∷ batches) [] page xs ys h k l r s a b c d = absurd c
batches_alike buffer (batch ∷ batches) (fault ∷ faults) page xs ys h k l r s a b (here, rest, left, given, said, goes, others) (here', rest', left', given', said', goes', others') =
    let one = leads_split here rest h k (subst (λ e. Leads' h e k) said a) in
    let two = leads_split here' rest' h l (subst (λ e. Leads' h e l) said' b) in
    let same = batch_alike buffer batch page left left' fault here here' h one.0 two.0 given given' one.1 two.1 goes goes' in
    after r s rest rest' given given' same.ends.0 others others'
    (λ ok p q. batches_alike buffer batches faults left rest rest' one.0 k l r s one.2
    (subst (λ host. Leads' host rest' l) (sym (same.ends.1 ok)) two.2) p
    (subst (λ z. BatchesEnd buffer batches faults z rest' s) (sym same.pages) q))

pub one_way : BootEndsInOneWay
one_way image r s boots others =
    let c = boots.said in
    let d = others.said in
    let one = leads_split c.first c.second (host_of image) boots.end (subst (λ e. Leads' (host_of image) e boots.end) c.said boots.leads) in
    let two = leads_split d.first d.second (host_of image) others.end (subst (λ e. Leads' (host_of image) e others.end) d.said others.leads) in
    let same = asks_alike (asks_of image.announce image.ghcb.0) c.first d.first (host_of image) one.0 two.0 c.answer d.answer one.1 two.1 c.asks d.asks in
    after r s c.second d.second c.answer d.answer same.0 c.then d.then
    (λ ok p q. batches_alike (buffer_of image.ghcb.0) (image_batches image) (image_faults image) blank_page c.second d.second one.0 boots.end others.end r s one.2
    (subst (λ host. Leads' host d.second others.end) (sym (same.1 ok)) two.2) p q)

pub ended : (image : Image) (host : Sim) (events : List HostEvent) (end : Sim) (result : Result (Unit {0}) BootError) → host ≡ host_of image → Leads SimAnswers SimReturns host events end → SaidAsDue image events result → (result ≡ Err NoMemory) ⊎ BootEnds image result
ended image host events end result is leads (inl none) = inl none.1
ended image host events end result is leads (inr said) = inr (record { events = events; end = end; leads = subst (λ h. Leads' h events end) is leads; said = said })
