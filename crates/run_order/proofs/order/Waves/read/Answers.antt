use Rattle.std.proofs.Common.{◌≡◌, ℕ, List, take, drop, length, ◌-◌, ◌<◌, sym, ◌∙◌, ap, subst}
use Rattle.std.specs.Prelude.{All, is_some}
use Rattle.std.proofs.lemmas.List.{take_rest}
use Rattle.svsm_steps.specs.declared.entry.Entry.{Entry}
use Rattle.run_trees.specs.Begun.{GivesAnswers}
use Rattle.run_order.specs.declared.wave.WaveRead.TheVariants as reads
use Rattle.run_order.specs.Finds.{AreInMap}
use Rattle.run_order.specs.WaveReads.{AreOnce, WaveReads}
use Rattle.run_order.proofs.AnswerLemmas.{given, gives, given_drop, in_map}
use Rattle.run_order.proofs.BehindLemmas.{low_behind, once_behind, breaks_wave, breaks_end}
use Rattle.run_order.proofs.StandLemmas.{stands_begun}
use Rattle.run_order.proofs.order.Waves.read.Goals as goal

pub read_wave-requires-clause-in_map : goal.read_wave-requires-clause-in_map
read_wave-requires-clause-in_map c =
    subst AreInMap (sym (take_rest c.args.entries.now c.args.self.now.behind))
    (in_map c.args.image.now.regions (drop c.args.self.now.behind c.args.entries.now) c.requires.sound.regions_most
    (given_drop c.args.image.now.regions c.args.self.now.behind c.args.entries.now (given c.args.image.now c.args.entries.now c.requires.sound c.requires.formed c.requires.legal)))

pub read_wave-requires-clause-answers : goal.read_wave-requires-clause-answers
read_wave-requires-clause-answers c =
    subst GivesAnswers (sym (take_rest c.args.entries.now c.args.self.now.behind))
    (gives c.args.image.now.regions (drop c.args.self.now.behind c.args.entries.now)
    (given_drop c.args.image.now.regions c.args.self.now.behind c.args.entries.now (given c.args.image.now c.args.entries.now c.requires.sound c.requires.formed c.requires.legal)))

pub read_wave-requires-clause-low : goal.read_wave-requires-clause-low
read_wave-requires-clause-low c =
    subst (All (λ core. core < length c.args.image.now.cores)) (sym c.requires.next)
    (low_behind c.args.image.now (is_some c.args.self.now.told.refused) c.args.self.now.ran.items c.args.self.now.registry.rows)

pub read_wave-requires-clause-once : goal.read_wave-requires-clause-once
read_wave-requires-clause-once c =
    subst AreOnce (sym c.requires.next)
    (once_behind c.args.image.now (is_some c.args.self.now.told.refused) c.args.self.now.ran.items c.args.self.now.registry.rows)

pub add-requires-clause-over : goal.add-requires-clause-over
add-requires-clause-over c =
    subst (λ (l : List Entry). WaveReads c.args.image.now c.args.scripts.now c.args.cores.now l (reads.Over c.in-Over.count c.in-Over.runs))
    (take_rest c.args.entries.now c.args.self.now.behind)
    (subst (WaveReads c.args.image.now c.args.scripts.now c.args.cores.now (take (length c.args.entries.now - c.args.self.now.behind) (drop c.args.self.now.behind c.args.entries.now)))
    c.in-Over.is c.in_ok-count.ensures)

pub returns-in-Breaks : goal.returns-in-Breaks
returns-in-Breaks c =
    breaks_wave c.args.image.now c.args.scripts.now c.args.entries.now c.args.self.now.behind c.args.self.now.ran.items c.requires.stands.read.told c.args.cores.now c.in-Breaks.at
    c.requires.stands.read.within (given c.args.image.now c.args.entries.now c.requires.sound c.requires.formed c.requires.legal)
    (stands_begun c.args.image.now c.args.scripts.now c.args.entries.now c.args.self.now c.args.cores.now c.requires.stands c.requires.next)
    (subst (λ (l : List Entry). WaveReads c.args.image.now c.args.scripts.now c.args.cores.now l (reads.Breaks c.in-Breaks.at))
    (take_rest c.args.entries.now c.args.self.now.behind)
    (subst (WaveReads c.args.image.now c.args.scripts.now c.args.cores.now (take (length c.args.entries.now - c.args.self.now.behind) (drop c.args.self.now.behind c.args.entries.now)))
    c.in-Breaks.is c.in_ok-count.ensures))

pub returns-in-UnderWay : goal.returns-in-UnderWay
returns-in-UnderWay c =
    breaks_end c.args.image.now c.args.scripts.now c.args.entries.now c.args.self.now.behind c.args.self.now.ran.items c.requires.stands.read.told c.args.cores.now
    c.requires.some (given c.args.image.now c.args.entries.now c.requires.sound c.requires.formed c.requires.legal)
    (stands_begun c.args.image.now c.args.scripts.now c.args.entries.now c.args.self.now c.args.cores.now c.requires.stands c.requires.next)
    (subst (λ (l : List Entry). WaveReads c.args.image.now c.args.scripts.now c.args.cores.now l reads.UnderWay)
    (take_rest c.args.entries.now c.args.self.now.behind)
    (subst (WaveReads c.args.image.now c.args.scripts.now c.args.cores.now (take (length c.args.entries.now - c.args.self.now.behind) (drop c.args.self.now.behind c.args.entries.now)))
    c.in-UnderWay.is c.in_ok-count.ensures))
