-- Entries whose tickets begin at 0, behind a history.
use Rattle.std.specs.Prelude.{ℕ, ◌+◌, List, map}
use Rattle.svsm_steps.specs.declared.entry.Entry.{Entry}

-- the entry with its ticket raised by so many
abbrev pub raise : ℕ → Entry → Entry
raise n entry = record entry { ticket = n + entry.ticket }

-- each entry with its ticket raised
abbrev pub raised : ℕ → List Entry → List Entry
raised n entries = map (raise n) entries
