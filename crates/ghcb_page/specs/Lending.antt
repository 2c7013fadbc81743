-- What becomes of the page while its bytes are lent.
use Rattle.std.specs.Prelude.{ℕ, List, ◌++◌, length, take, drop}
use Rattle.std.specs.Borrow.{Lends, MutBor, Fml, u8, Array}
use Rattle.ghcb_page.specs.contracts.page.GhcbPage.{the_row}

-- the page ends as the bytes behind `lent` end, of which there are as many as it has
abbrev pub LendsBytes : MutBor (List ℕ) → MutBor (List ℕ) → Fml
LendsBytes page lent =
    Lends the_row (Array u8 0) page lent (λ bytes. take (length page.now) (bytes ++ drop (length bytes) page.now))
