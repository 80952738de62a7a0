-- Entries of the line that is present, where no uploading thread makes one.
use Rattle.std.specs.Prelude.{◌≡◌, ℕ, false, List}
use Rattle.jv_model.specs.declared.act.Act.{Act}
use Rattle.jv_model.specs.promise.journal.Past.{Past, past}
use Rattle.jv_model.specs.promise.journal.Legal.{AllAllowed}
pub use Rattle.jv_model.specs.promise.journal.Legal.{IsNow}

-- no uploading thread makes an entry
abbrev pub IsAlone : Past → Type 0
IsAlone q = (n : ℕ) → q.run.by_worker n ≡ false

-- entries are allowed from one past on, and lead to another
pub record Leads (q : Past) (acts : List Act) (r : Past) : Type 0 where
  pub allowed : AllAllowed q acts
  pub reaches : past q acts ≡ r

-- still on the same line, whose entries so far print nothing of the lines before
pub record SameLine (q r : Past) : Type 0 where
  pub line : r.line ≡ q.line
  pub run : r.run ≡ q.run
  pub rest : r.rest ≡ q.rest
  pub printed : r.printed ≡ q.printed
  pub complete : r.complete ≡ q.complete
