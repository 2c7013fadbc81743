use Rattle.std.proofs.Common.{◌≡◌, ℕ}
use Rattle.std.specs.Prelude.{true}
use Rattle.std.specs.List.{list_all, list_any, range_with_len}
use Rattle.svsm_steps.specs.Image.{range_of}
use Rattle.svsm_steps.specs.Sound.{has_vmsa}
use Rattle.image_grammar.specs.End.{is_vmsa_page, same}
use Rattle.image_reader.proofs.draft.Draft.are_seats.Given as goal

abbrev pub invariant-pages : goal.invariant-pages
invariant-pages l = record {
  seats : list_all (λ (page : ℕ). same (list_any (has_vmsa page) l.self.image.cores) (is_vmsa_page (range_of l.self.image page))) (range_with_len 0 l.page) ≡ true;
}
