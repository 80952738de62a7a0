-- What changes of a draft do to a tree: sessions that come and go, and files that a session lets
-- go.
use Rattle.std.specs.Prelude.{◌≡◌, ℕ, ◌<◌, ◌^◌, true, false, ◌==◌, if◌then◌else◌, List, [], ◌∷◌, length, Option, None, Some, Result, Ok, IfOk, IfSome}
use Rattle.std.specs.Int.{w64, from_be_bytes}
use Rattle.jv_model.specs.declared.tables.TheConstants.{TABLE_OF_SUSTAINED}
use Rattle.jv_model.specs.declared.fault.TxFault.{TxFault}
use Rattle.jv_model.specs.declared.row.Row.{Row}
use Rattle.jv_model.specs.declared.row.RowKey.{RowKey}
use Rattle.jv_model.specs.declared.row.Row.TheVariants.{OfSustained}
use Rattle.jv_model.specs.declared.row.Session.{Session}
use Rattle.jv_model.specs.promise.FiniteMap.{get, insert, remove}
use Rattle.jv_model.specs.promise.rows.RowFields.{long}
use Rattle.jv_model.specs.promise.rows.RowKeys.{RowMap}
use Rattle.jv_model.specs.promise.rows.RowPlaces.{sustained_key}
use Rattle.jv_model.specs.promise.tree.Tree.{Tree}
use Rattle.jv_outside.specs.promise.Store.{Store}
pub use Rattle.jv_rows.specs.Lists.{is_past, is_ahead, if_past}
use Rattle.jv_rows.specs.Transactions.{Looks, without_answer}
use Rattle.jv_volume.specs.promise.TypedRows.{Rows, typed}
use Rattle.jv_volume.specs.promise.TreeOf.{session_of_row}
use Rattle.jv_volume.specs.Views.{sustained_at}
use Rattle.jv_volume.specs.promise.Whole.{Whole}

-- with this session
abbrev pub keeping_session : ℕ → Session → Tree → Tree
keeping_session sid session t = record t { sessions = insert t.sessions sid (session_of_row session) }

-- without a session
abbrev pub ending_session : ℕ → Tree → Tree
ending_session sid t = record t { sessions = remove t.sessions sid }

-- without a file that a session keeps
abbrev pub letting_go : ℕ → ℕ → Tree → Tree
letting_go sid inode t =
    record t { sustained = remove t.sustained (record { sid = sid; inode = inode }) }

-- the session keeps the file, where the rows are known
abbrev pub HasPair : Store → ℕ → ℕ → Type 0
HasPair store sid inode =
    IfSome store.rows (λ known. get (typed known) (sustained_key sid inode) ≡ Some (Ok OfSustained))

-- ---- the files that a session keeps, one after another

-- the key of a session's file, or one below the keys of all its files
abbrev pub last_key : ℕ → Option ℕ → RowKey
last_key sid None = record { tab = TABLE_OF_SUSTAINED; a = sid; b = [] }
last_key sid (Some inode) = sustained_key sid inode

-- the number that eight bytes spell
abbrev pub number_in : List ℕ → Option ℕ
number_in bytes = (if length bytes == 8 then Some (from_be_bytes w64 bytes) else None)

-- the file of the first of rows, if it is the session's and comes after one
abbrev pub first_kept : ℕ → Option ℕ → List (RowKey × Row) → Option ℕ
first_kept sid after [] = None
first_kept sid after (r ∷ rows) = (if r.0.a == sid then if_past after (number_in r.0.b) else None)

-- eight bytes in the key of the first row are those of the number that they spell
abbrev pub IsSpelled : List (RowKey × Row) → Type 0
IsSpelled [] = Unit {0}
IsSpelled (r ∷ rows) = IfSome (number_in r.0.b) (λ number. r.0.b ≡ long number)

-- the session keeps no file between the two
abbrev pub KeepsNone : Rows → ℕ → Option ℕ → Option ℕ → Type 0
KeepsNone rows sid after next = (inode : ℕ) → inode < 2 ^ 64 → is_past after inode ≡ true
    → is_ahead next inode ≡ true → sustained_at rows sid inode ≡ false

-- A reading of the next file that a session keeps, after one or from the first on.
pub record FindsKept (sid : ℕ) (after : Option ℕ) (before now : Store)
    (result : Result (Option ℕ) TxFault) : Type 0 where
  pub looks : Looks before now (without_answer result) (λ t. Ok tt)
  pub past : IfOk result (λ found. IfSome found (λ inode. is_past after inode ≡ true))
  pub small : IfOk result (λ found. IfSome found (λ inode. inode < 2 ^ 64))
  pub there : IfOk result (λ found. IfSome found (HasPair before sid))
  pub least : IfOk result (λ found. (known : RowMap) → before.rows ≡ Some known
      → Whole (typed known) → KeepsNone (typed known) sid after found)
