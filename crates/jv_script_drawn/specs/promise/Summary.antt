-- The totals of answers, and their line.
use Rattle.std.specs.Prelude.{ℕ, ◌+◌, if◌then◌else◌, List, [], ◌∷◌, ◌++◌, length, fold, sum, codes}
use Rattle.jv_model.specs.declared.op.Reply.{Reply}
use Rattle.jv_model.specs.declared.op.Reply.TheVariants.{Data}
use Rattle.jv_model.specs.promise.Counts.{counted, saturated}
use Rattle.jv_model.specs.promise.journal.State.{is_refused}
use Rattle.jv_model.specs.promise.script.Printed.{number_word}

-- the lines, those of them that were answered `ok` and `err`, and the bytes that reads returned
-- with the sum of their values
pub record TotalsValue : Type 0 where
  pub lines : ℕ
  pub ok : ℕ
  pub err : ℕ
  pub bytes : ℕ
  pub values : ℕ

abbrev pub no_totals : TotalsValue
no_totals = record { lines = 0; ok = 0; err = 0; bytes = 0; values = 0 }

-- a total with more added
abbrev pub added : ℕ → ℕ → ℕ
added n more = saturated (n + more)

-- the bytes that a read returned
abbrev pub read_bytes : Reply → List ℕ
read_bytes (Data bytes) = bytes
read_bytes _ = []

-- one more answer
abbrev pub with_reply : TotalsValue → Reply → TotalsValue
with_reply t reply = record {
  lines = counted t.lines;
  ok = (if is_refused reply then t.ok else counted t.ok);
  err = (if is_refused reply then counted t.err else t.err);
  bytes = added t.bytes (length (read_bytes reply));
  values = added t.values (sum (read_bytes reply));
}

abbrev pub totals_of : List Reply → TotalsValue
totals_of replies = fold with_reply no_totals replies

-- `lines L ok K err R bytes T sum S` and a line feed
abbrev pub summary_line : TotalsValue → List ℕ
summary_line t = codes "lines" ++ number_word t.lines ++ codes " ok" ++ number_word t.ok
    ++ codes " err" ++ number_word t.err
    ++ codes " bytes" ++ number_word t.bytes ++ codes " sum" ++ number_word t.values ++ 10 ∷ []
