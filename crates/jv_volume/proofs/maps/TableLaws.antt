-- The tables that a tree is made of: which keys their rows have.
use Rattle.std.proofs.Common.{◌≡◌, ℕ, ◌<◌, ◌^◌, true, cond, ◌&&◌, List, [], get_or, Option, None, Some, refl, sym, ap, subst, ◌∙◌, arith, lt-ltb, ltb-true, eqb-true, eq-eqb}
use Rattle.std.proofs.lemmas.Option.{cond_some}
use Rattle.std.specs.Prelude.{◌==◌, nat_lt, if◌then◌else◌, bytes_eq}
use Rattle.std.specs.Int.{w64, from_be_bytes}
use Rattle.std.specs.Cmp.Lexicographic.{bytes_decides}
use Rattle.std.proofs.lemmas.Bool.{and_parts}
use Rattle.std.proofs.lemmas.Nat.{from_be_bytes-to_be_bytes_8}
use Rattle.jv_model.specs.declared.tables.TheConstants.{TABLE_OF_EDGES, TABLE_OF_SUSTAINED}
use Rattle.jv_model.specs.declared.row.RowKey.{RowKey}
use Rattle.jv_model.specs.promise.rows.RowFields.{long}
use Rattle.jv_model.specs.promise.rows.RowPlaces.{edge_key, sustained_key}
use Rattle.jv_model.specs.promise.tree.Tree.{EntryKey, SustainedFile}
use Rattle.jv_model.proofs.TestLaws.{nil_is}
use Rattle.jv_model.specs.promise.Lists.{is_nil}
use Rattle.jv_volume.specs.promise.TreeOf.{number_of_key, entry_of_key, pair_of_key}
use Rattle.jv_volume.proofs.maps.SelectLaws.{IsTable}

pub same_key_parts : (q : RowKey) (tab a : ℕ) (b : List ℕ) → tab ≡ q.tab → a ≡ q.a → b ≡ q.b → record { tab = tab; a = a; b = b } ≡ q
same_key_parts q tab a b e f g = λ i. record { tab = e i; a = f i; b = g i }

-- ---- tables whose keys are numbers

abbrev pub number_place : ℕ → ℕ → Option RowKey
number_place tab a = Some (record { tab = tab; a = a; b = [] })

number_there : (tab : ℕ) (q : RowKey) (k : ℕ) → number_of_key tab q ≡ Some k → number_place tab k ≡ Some q
number_there tab q k e =
    let is = cond_some (q.tab == tab && is_nil q.b) q.a k e in
    let parts = and_parts (q.tab == tab) (is_nil q.b) is.0 in
    ap (λ key. Some key) (same_key_parts q tab k [] (sym (eqb-true q.tab tab parts.0)) (sym is.1) (sym (nil_is q.b parts.1)))

number_here : (tab k : ℕ) → number_of_key tab (record { tab = tab; a = k; b = [] }) ≡ Some k
number_here tab k = ap (λ b. cond (b && true) (Some k) None) (eq-eqb tab tab refl)

-- a table whose keys are numbers
pub number_table : (tab : ℕ) → IsTable (number_of_key tab) (number_place tab)
number_table tab = record {
  there = number_there tab;
  back = λ q k e. subst (λ o. number_of_key tab o ≡ Some k) (let same : record { tab = tab; a = k; b = [] } ≡ q = cc in same) (number_here tab k);
}

-- ---- the table of entries

abbrev pub entry_place : EntryKey → Option RowKey
entry_place at = Some (edge_key at.dir at.name)

entry_there : (q : RowKey) (at : EntryKey) → entry_of_key q ≡ Some at → entry_place at ≡ Some q
entry_there q at e =
    let is = cond_some (q.tab == TABLE_OF_EDGES) (record { dir = q.a; name = q.b }) at e in
    ap (λ (place : EntryKey). Some (edge_key place.dir place.name)) (sym is.1)
    ∙ ap (λ key. Some key) (same_key_parts q TABLE_OF_EDGES q.a q.b (sym (eqb-true q.tab TABLE_OF_EDGES is.0)) refl refl)

pub entry_table : IsTable entry_of_key entry_place
entry_table = record {
  there = entry_there;
  back = λ q at e. subst (λ o. entry_of_key o ≡ Some at) (let same : edge_key at.dir at.name ≡ q = cc in same) refl;
}

-- ---- the table of sustained files, whose keys have inodes of 64 bits

below_64 : (bytes : List ℕ) → get_or bytes 0 0 < 256 → get_or bytes 1 0 < 256 → get_or bytes 2 0 < 256 → get_or bytes 3 0 < 256 → get_or bytes 4 0 < 256
    → get_or bytes 5 0 < 256
    → get_or bytes 6 0 < 256 → get_or bytes 7 0 < 256 → from_be_bytes w64 bytes < 2 ^ 64
below_64 bytes a b c d e f g h = omega (arith, a, b, c, d, e, f, g, h)

-- eight bytes spell a number of 64 bits
pub long_below : (n : ℕ) → from_be_bytes w64 (long n) < 2 ^ 64
long_below n = below_64 (long n) (omega arith) (omega arith) (omega arith) (omega arith) (omega arith) (omega arith) (omega arith) (omega arith)

abbrev pub pair_place : SustainedFile → Option RowKey
pair_place pair = (if nat_lt pair.inode (2 ^ 64) then Some (sustained_key pair.sid pair.inode) else None)

-- over any spelling of numbers
module _ (spelled : ℕ → List ℕ) (read : List ℕ → ℕ) (limit : ℕ) (below : (n : ℕ) → read (spelled n) < limit) (again : (n : ℕ) → n < limit
    → read (spelled n) ≡ n) where
  abbrev pair_by : RowKey → Option SustainedFile
  pair_by key = (if key.tab == TABLE_OF_SUSTAINED && bytes_eq (spelled (read key.b)) key.b then Some (record { sid = key.a; inode = read key.b }) else None)

  abbrev key_by : ℕ → ℕ → RowKey
  key_by sid inode = record { tab = TABLE_OF_SUSTAINED; a = sid; b = spelled inode }

  abbrev place_by : SustainedFile → Option RowKey
  place_by pair = (if nat_lt pair.inode limit then Some (key_by pair.sid pair.inode) else None)

  pair_there : (q : RowKey) (pair : SustainedFile) → pair_by q ≡ Some pair → place_by pair ≡ Some q
  pair_there q pair e =
      let is = cond_some (q.tab == TABLE_OF_SUSTAINED && bytes_eq (spelled (read q.b)) q.b) (record { sid = q.a; inode = read q.b }) pair e in
      let parts = and_parts (q.tab == TABLE_OF_SUSTAINED) (bytes_eq (spelled (read q.b)) q.b) is.0 in
      let same : spelled (read q.b) ≡ q.b = (bytes_decides (spelled (read q.b)) q.b).0 parts.1 in
      let less : read q.b < limit = subst (λ b. read b < limit) same (below (read q.b)) in
      ap place_by (sym is.1)
      ∙ ap (λ b. cond b (Some (key_by q.a (read q.b))) None) (lt-ltb (read q.b) limit less)
      ∙ ap (λ key. Some key) (same_key_parts q TABLE_OF_SUSTAINED q.a (spelled (read q.b)) (sym (eqb-true q.tab TABLE_OF_SUSTAINED parts.0)) refl same)

  pair_here : (sid inode : ℕ) → inode < limit → pair_by (key_by sid inode) ≡ Some (record { sid = sid; inode = inode })
  pair_here sid inode less =
      let same : read (spelled inode) ≡ inode = again inode less in
      ap (λ b. cond b (Some (record { sid = sid; inode = read (spelled inode) })) None)
      ((bytes_decides (spelled (read (spelled inode))) (spelled inode)).1 (ap spelled same))
      ∙ ap (λ n. Some (record { sid = sid; inode = n })) same

  pair_back : (q : RowKey) (pair : SustainedFile) → place_by pair ≡ Some q → pair_by q ≡ Some pair
  pair_back q pair e =
      let is = cond_some (nat_lt pair.inode limit) (key_by pair.sid pair.inode) q e in
      subst (λ o. pair_by o ≡ Some pair) is.1 (pair_here pair.sid pair.inode (ltb-true pair.inode limit is.0))

  pair_table_by : IsTable pair_by place_by
  pair_table_by = record { there = pair_there; back = pair_back }

pub pair_table : IsTable pair_of_key pair_place
pair_table = pair_table_by long (from_be_bytes w64) (2 ^ 64) long_below from_be_bytes-to_be_bytes_8

-- the key of a sustained file
pub pair_of_key-here : (sid inode : ℕ) → inode < 2 ^ 64 → pair_of_key (sustained_key sid inode) ≡ Some (record { sid = sid; inode = inode })
pair_of_key-here sid inode less = pair_here long (from_be_bytes w64) (2 ^ 64) long_below from_be_bytes-to_be_bytes_8 sid inode less

-- the place of a sustained file
pub pair_place-here : (sid inode : ℕ) → inode < 2 ^ 64 → pair_place (record { sid = sid; inode = inode }) ≡ Some (sustained_key sid inode)
pair_place-here sid inode less = ap (λ b. cond b (Some (sustained_key sid inode)) None) (lt-ltb inode (2 ^ 64) less)
