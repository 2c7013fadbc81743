use Rattle.std.proofs.Common.{List, ℕ, refl, ◌%◌, ◌∙◌, ap, get_or}
use Rattle.platform_trait.proofs.WordLemmas.{blank_page, listed, unlisted}
use Rattle.platform_trait.proofs.word_pages.WordPages.has_word.Goals as goal

pub returns-in-Some : goal.returns-in-Some
returns-in-Some c = blank_page c.args.self.now.pages.items c.args.page.0 (c.args.page.0 % 512) c.in-Some.words.now c.is_blank.result
    (listed c.args.self.now.pages.items c.deref.result.now (c.args.page.0 % 512) c.deref.ensures.value c.in-Some.ensures.lookup.0)
    refl (c.in-Some.ensures.lookup.1 ∙ ap (λ (ps : List (List ℕ)). get_or ps (c.args.page.0 % 512) c.in-Some.words.now) c.deref.ensures.value) c.is_blank.ensures

pub returns-in-None : goal.returns-in-None
returns-in-None c = λ none. unlisted c.args.self.now.pages.items c.deref.result.now c.args.page.0 (c.args.page.0 % 512) c.deref.ensures.value c.in-None.ensures.lookup.0 refl
