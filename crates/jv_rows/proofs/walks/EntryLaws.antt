-- The entry that a path names: what is left of it after each part.
use Rattle.std.proofs.Common.{◌≡◌, ◌≢◌, ℕ, ◌<◌, ◌≤◌, Bool, true, false, List, [], ◌∷◌, ◌++◌, length, Option, Result, Ok, Err, ap, ◌∙◌, eq-eqb, ne_eqb}
use Rattle.std.specs.Prelude.{◌||◌, ◌==◌, not, nat_le}
use Rattle.std.proofs.lemmas.Bool.{le-leb, lt-leb}
use Rattle.jv_model.specs.declared.limits.TheConstants.{MAX_NAME, MAX_PATH, MAX_SYMLINKS, ROOT}
use Rattle.jv_model.specs.declared.fault.Fault.{Fault}
use Rattle.jv_model.specs.declared.fault.Fault.TheVariants.{Invalid, NotADirectory, NameTooLong}
use Rattle.jv_model.specs.declared.fault.TxFault.{TxFault}
use Rattle.jv_model.specs.declared.fault.TxFault.TheVariants.{Refused}
use Rattle.jv_model.specs.promise.tree.Attempt.{◌>>=◌, require, some_or}
use Rattle.jv_model.specs.promise.tree.Tree.{Tree, EntryKey, is_directory}
use Rattle.jv_model.specs.promise.tree.Walk.{names_of, is_dot, is_dot_dot, walk}
use Rattle.jv_outside.specs.promise.Store.{Store}
use Rattle.jv_volume.specs.promise.TypedRows.{typed}
use Rattle.jv_volume.specs.promise.TreeOf.{tree_of}
use Rattle.jv_rows.specs.Transactions.{Looks}
use Rattle.jv_rows.specs.Walks.{Comes, ComesToEntry, pair_in, entry_pair}
use Rattle.jv_rows.specs.declared.walking.Place.{Place}
use Rattle.jv_rows.proofs.transactions.TransactionLaws.{Past, past-start}
use Rattle.jv_rows.proofs.transactions.ReadingPartLaws.{in_other_words, answered, refused, found_part, failed_part}
use Rattle.jv_rows.proofs.walks.NameStepLaws.{node_is}
use Rattle.jv_rows.proofs.grammars.NamesLaws.{last_name_is, other_names_are}
use Rattle.jv_model.proofs.TestLaws.{bound}

-- an entry that isn't reached
pub no_entry_place : {before after : Store} {asked : Tree → Result (ℕ × List ℕ) Fault} {fault : TxFault} → Looks before after (Err fault) asked → ComesToEntry before after (Err fault) asked
no_entry_place looks = record { looks = looks; stands = tt; allowed = tt; directory = tt }

-- an entry of what is a directory or not, by a name that fits or doesn't
abbrev entry_within : Bool → Bool → ℕ → List ℕ → Result EntryKey Fault
entry_within directory fits dir name = (require directory NotADirectory >>= λ unit. require fits NameTooLong >>= λ other. Ok (record { dir = dir; name = name }))

abbrev paired : Result EntryKey Fault → Result (ℕ × List ℕ) Fault
paired found = (found >>= λ at. Ok (pair_in at))

-- the entry of a name, behind others
abbrev entry_behind : Bool → Tree → List (List ℕ) → List ℕ → Result EntryKey Fault
entry_behind good t names name = (require good Invalid >>= λ unit. walk MAX_SYMLINKS t true ROOT names >>= λ dir. entry_within (is_directory t dir) (nat_le (length name) MAX_NAME) dir name)

-- what is left once the walk is at the entry's directory
abbrev entry_left : List ℕ → ℕ → Tree → Result (ℕ × List ℕ) Fault
entry_left name dir t = paired (entry_within (is_directory t dir) (nat_le (length name) MAX_NAME) dir name)

-- the entry of a path, by its last name and the others
abbrev entry_by : Bool → Option (List ℕ) → List (List ℕ) → Tree → Result (ℕ × List ℕ) Fault
entry_by short last names t =
    paired (require short NameTooLong >>= λ unit. some_or last Invalid >>= λ name. entry_behind (not (is_dot name || is_dot_dot name)) t names name)

module _ (path : List ℕ) (names : List (List ℕ)) (name : List ℕ) (short : length path ≤ MAX_PATH) (is : names_of path ≡ names ++ name ∷ []) where
  behind_names : (store : Store) → Past store store (λ t. entry_pair t path) (λ t. paired (entry_behind (not (is_dot name || is_dot_dot name)) t names name))
  behind_names store =
      in_other_words (past-start store (λ t. entry_pair t path)) (λ known rows_are whole bytes.
      (λ i. entry_by (le-leb (length path) MAX_PATH short i) (last_name_is names name is i) (other_names_are names name is i) (tree_of bytes (typed known))))

  -- the last name is `.` or `..`
  pub entry_of_dots : {store : Store} → (is_dot name || is_dot_dot name) ≡ true → ComesToEntry store store (Err (Refused Invalid)) (λ t. entry_pair t path)
  entry_of_dots {store = store} dots =
      no_entry_place (refused Invalid (in_other_words (behind_names store) (λ known rows_are whole bytes. ap (λ d. paired (entry_behind (not d) (tree_of bytes (typed known)) names name)) dots)))

  module _ (good : (is_dot name || is_dot_dot name) ≡ false) where
    by_walk : (store : Store) → Past store store (λ t. entry_pair t path) (λ t. walk MAX_SYMLINKS t true ROOT names >>= λ dir. entry_left name dir t)
    by_walk store =
        in_other_words (behind_names store) (λ known rows_are whole bytes. let t = tree_of bytes (typed known) in
        ap (λ d. paired (entry_behind (not d) t names name)) good
        ∙ bound (walk MAX_SYMLINKS t true ROOT names) (λ dir. entry_within (is_directory t dir) (nat_le (length name) MAX_NAME) dir name) (λ at. Ok (pair_in at)))

    -- the walk to its directory fails
    pub directory_fails : {before after : Store} (fault : TxFault) → Comes before after (Err fault) (λ t. walk MAX_SYMLINKS t true ROOT names)
        → ComesToEntry before after (Err fault) (λ t. entry_pair t path)
    directory_fails {before = before} fault comes = no_entry_place (failed_part (entry_left name) fault (by_walk before) comes.looks)

    module _ {before after : Store} (place : Place) (comes : Comes before after (Ok place) (λ t. walk MAX_SYMLINKS t true ROOT names)) where
      in_place : Past before after (λ t. entry_pair t path) (λ t. paired (entry_within (place.node.kind == 2) (nat_le (length name) MAX_NAME) place.inode name))
      in_place =
          let found = found_part (entry_left name) place.inode (by_walk before) comes.looks in
          in_other_words found (λ known rows_are whole bytes.
          ap (λ directory. paired (entry_within directory (nat_le (length name) MAX_NAME) place.inode name)) (node_is after comes.stands known (found.rows_are ∙ rows_are) whole bytes).directory)

      pub entry_nowhere : place.node.kind ≢ 2 → ComesToEntry before after (Err (Refused NotADirectory)) (λ t. entry_pair t path)
      entry_nowhere other =
          no_entry_place (refused NotADirectory (in_other_words in_place (λ known rows_are whole bytes.
          ap (λ directory. paired (entry_within directory (nat_le (length name) MAX_NAME) place.inode name)) (ne_eqb place.node.kind 2 other))))

      pub entry_too_long : place.node.kind ≡ 2 → MAX_NAME < length name → ComesToEntry before after (Err (Refused NameTooLong)) (λ t. entry_pair t path)
      entry_too_long directory long =
          no_entry_place (refused NameTooLong (in_other_words in_place (λ known rows_are whole bytes.
          (λ i. paired (entry_within (eq-eqb place.node.kind 2 directory i) (lt-leb (length name) MAX_NAME long i) place.inode name)))))

      pub entry_found : place.node.kind ≡ 2 → length name ≤ MAX_NAME → ComesToEntry before after (Ok (record { dir = place; name = name })) (λ t. entry_pair t path)
      entry_found directory fits = record {
        looks = answered (place.inode, name) (in_other_words in_place (λ known rows_are whole bytes.
            (λ i. paired (entry_within (eq-eqb place.node.kind 2 directory i) (le-leb (length name) MAX_NAME fits i) place.inode name))));
        stands = comes.stands;
        allowed = comes.allowed;
        directory = directory;
      }
