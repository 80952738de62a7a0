-- A file of another length, with both times at a moment: what its row and the counters do to whole rows, and that their tree has the
-- content that is put there.
use Rattle.std.proofs.Common.{◌≡◌, ◌≢◌, ℕ, ◌+◌, ◌-◌, ◌≤◌, Bool, true, false, ◌&&◌, inl, inr, None, Some, Ok, refl, sym, ap, subst, ◌∙◌, arith, le-leb, ne_eqb}
use Rattle.std.proofs.lemmas.Bool.{cases_eq, or_right}
use Rattle.std.specs.Prelude.{◌==◌, ◌||◌, not, nat_lt, nat_le, IsTrue, if◌then◌else◌}
use Rattle.std.specs.Option.{option_map}
use Rattle.jv_model.specs.declared.limits.TheConstants.{FILE_END, ROOT, TRASH_ROOT}
use Rattle.jv_model.specs.declared.row.Counters.{Counters}
use Rattle.jv_model.specs.declared.row.Node.{Node as NodeRow}
use Rattle.jv_model.specs.declared.row.Row.TheVariants.{OfNode}
use Rattle.jv_model.specs.declared.setting.Setting.{Setting}
use Rattle.jv_model.specs.promise.FiniteMap.{number_key, get, insert}
use Rattle.jv_model.specs.declared.row.RowKey.{RowKey}
use Rattle.jv_model.specs.promise.rows.RowKeys.{row_key}
use Rattle.jv_model.specs.promise.rows.RowPlaces.{counters_key, node_key}
use Rattle.jv_model.specs.promise.tree.Tree.{Tree, Node, Kind, File, Directory, Symlink, Content, node_at, content_at, is_counted, paged, node_space, kind_space, used_space, used_inodes, space_limit, inode_limit, sum_fits, fits}
use Rattle.jv_model.specs.promise.tree.Changes.{touched, put_node, set_node, with_content, content_of}
use Rattle.jv_model.proofs.FiniteMapLaws.{same_maps}
use Rattle.jv_model.proofs.TestLaws.{and_true}
use Rattle.jv_volume.specs.promise.TypedRows.{Rows}
use Rattle.jv_volume.specs.promise.Views.{row_in, counters_in, counters_at, node_in, node_row_at, setting_at}
use Rattle.jv_volume.specs.promise.TreeOf.{node_of_row, tree_of}
use Rattle.jv_volume.specs.promise.Shape.{WholeShape, Regular, form_of, is_there, shape_of}
use Rattle.jv_volume.specs.promise.Slices.{OfFile, WholeFiles}
use Rattle.jv_volume.specs.promise.Stored.{Stored}
use Rattle.jv_volume.specs.promise.Whole.{Whole, no_bytes}
use Rattle.jv_volume.specs.Whole.{Quiet}
use Rattle.jv_volume.proofs.stored.FilesLaws.{FileIs, Longer}
use Rattle.jv_volume.proofs.stored.FileStepLaws.{files-node, files-put_counters}
use Rattle.jv_volume.proofs.maps.MapLaws.{get-alter-here, get-alter-apart}
use Rattle.jv_volume.proofs.stored.NodeRowLaws.{IsNodeRow, IsNodeRow-length}
use Rattle.jv_volume.proofs.stored.QuietLaws.{quiet-none, quiet-put_counters, quiet-put_node, quiet-slices}
use Rattle.jv_volume.proofs.shapes.SameShapeLaws.{whole_as}
use Rattle.jv_volume.proofs.maps.SeenLaws.{AreRows, row-put, rows-alter}
use Rattle.jv_volume.proofs.shapes.ShapeMapLaws.{get-inserted, get-insert_apart, shape-put_node_same}
use Rattle.jv_volume.proofs.stored.StoredLaws.{HasNode, HasCounters, of_counters, found_node, found_counters, found_setting, whole-shape, whole-stored}
use Rattle.jv_volume.proofs.stored.StoredStepLaws.{tree_of-length, stored-length}
use Rattle.jv_volume.proofs.sums.SumLaws.{node_space-counted, used_space-drop_node, used_space-with_content, used_inodes-with_content}
use Rattle.jv_volume.proofs.stored.TreeOfLaws.{node_at-tree_of}
use Rattle.jv_volume.proofs.whole.WholeLaws.{again-row}
use Rattle.jv_data.specs.Resizing.{used_after}
use Rattle.jv_data.proofs.files.BesideLaws.{IsFormed}

-- ---- bytes

-- a length and the bytes below it are a content that has none from there on
content_is : (byte : ℕ → ℕ) (content : Content)
    → ((position : ℕ) → (if nat_lt position content.length then byte position else 0) ≡ content.byte position)
    → content_of content.length byte ≡ content
content_is byte content own = λ i. record { length = content.length; byte = λ position. own position i }

-- one node that is put hides which bytes its inode had
same_put : (bytes changed : ℕ → ℕ → ℕ) (rows : Rows) (inode : ℕ) (node : Node) → ((other : ℕ) → other ≢ inode → changed other ≡ bytes other)
    → put_node (tree_of changed rows) inode node ≡ put_node (tree_of bytes rows) inode node
unfolding tree_of
same_put bytes changed rows inode node others = λ i. record (put_node (tree_of bytes rows) inode node) { nodes = same i }
  where
    at_inode : (k : ℕ) → get (insert (tree_of changed rows).nodes inode node) k ≡ get (insert (tree_of bytes rows).nodes inode node) k
    at_inode k = elim (cases_eq k inode) [
      | inl here ↦ ap (get (insert (tree_of changed rows).nodes inode node)) here ∙ get-inserted number_key (tree_of changed rows).nodes inode node
          ∙ sym (ap (get (insert (tree_of bytes rows).nodes inode node)) here ∙ get-inserted number_key (tree_of bytes rows).nodes inode node)
      | inr apart ↦ get-insert_apart number_key (tree_of changed rows).nodes inode node k apart ∙ node_at-tree_of changed rows k
          ∙ ap (λ (byte : ℕ → ℕ). option_map (node_of_row byte) (node_row_at rows k)) (others k apart)
          ∙ sym (get-insert_apart number_key (tree_of bytes rows).nodes inode node k apart ∙ node_at-tree_of bytes rows k)
    ]

    same : insert (tree_of changed rows).nodes inode node ≡ insert (tree_of bytes rows).nodes inode node
    same = same_maps (insert (tree_of changed rows).nodes inode node) (insert (tree_of bytes rows).nodes inode node) at_inode

-- ---- space

-- files count for used space, since the root and what is in the trash's place are directories
file_counted : (t : Tree) (inode : ℕ) → WholeShape (shape_of t) → form_of (node_at t inode) ≡ Regular → is_counted inode ≡ true
file_counted t inode w is = ap (λ b. not b && nat_lt inode TRASH_ROOT) (ne_eqb inode ROOT no_root) ∙ below (nat_lt TRASH_ROOT inode) refl
  where
    no_root : inode ≡ ROOT → ⊥
    no_root same = (let both = sym is ∙ ap (λ k. form_of (node_at t k)) same ∙ w.root_there in absurd (cc))

    no_trash : inode ≡ TRASH_ROOT → ⊥
    no_trash same = (let both = sym is ∙ ap (λ k. form_of (node_at t k)) same ∙ w.trash_there in absurd (cc))

    below : (b : Bool) → nat_lt TRASH_ROOT inode ≡ b → nat_lt inode TRASH_ROOT ≡ true
    below true e = (let both = sym is ∙ (w.hours inode (subst (λ f. IsTrue (is_there f)) (sym is) refl) e).1 in absurd (cc))
    below false e = grind (arith, e, no_trash)

back_again : (a b d : ℕ) → d ≤ a → ((a + b) - d) + d ≡ a + b
back_again a b d le = omega (arith, le)

less_one : (a b d x : ℕ) → x + d ≡ a + b → x ≡ (a + b) - d
less_one a b d x e = omega (arith, e)

-- ---- the rows

module _ (rows : Rows) (inode : ℕ) (was : NodeRow) (c : Counters) (now length : ℕ) (whole : Whole rows)
    (there : node_row_at rows inode ≡ Some was) (file : was.kind ≡ 1)
    (counters : counters_at rows ≡ Some c) where
  abbrev pub sized : NodeRow
  sized = record was { length = length; mtime = now; ctime = now }

  abbrev pub space : ℕ
  space = used_after c was.length length

  abbrev middle : Rows
  middle = insert rows (node_key inode) (Ok (OfNode sized))

  abbrev pub sized_rows : Rows
  sized_rows = insert middle counters_key (of_counters (record c { used_space = space }))

  module _ (bytes : ℕ → ℕ → ℕ) where
    abbrev t : Tree
    t = tree_of bytes rows

    pub has : HasNode t inode was (bytes inode)
    has = found_node bytes rows (whole-stored bytes rows whole) inode was there

    pub has_counters : HasCounters t c
    has_counters = found_counters bytes rows (whole-stored bytes rows whole) c counters

    abbrev by_test : NodeRow → Bool → Kind
    by_test row is_file = (if is_file then File (content_of row.length (bytes inode)) else if row.kind == 2 then Directory row.parent else Symlink row.target)

    is_file : (was.kind == 1) ≡ true
    is_file = ap (λ k. k == 1) file

    regular : form_of (node_at t inode) ≡ Regular
    regular = ap form_of has.there ∙ ap (λ b. form_of (Some (record (node_of_row (bytes inode) was) { kind = by_test was b }))) is_file

    pub is_counted-file : is_counted inode ≡ true
    is_counted-file = file_counted t inode (whole-shape bytes rows whole) regular

    pub space_was : node_space inode (node_of_row (bytes inode) was) ≡ paged was.length
    space_was = node_space-counted inode (node_of_row (bytes inode) was) is_counted-file ∙ ap (λ b. kind_space (by_test was b)) is_file

    space_then : node_space inode (node_of_row (bytes inode) sized) ≡ paged length
    space_then = node_space-counted inode (node_of_row (bytes inode) sized) is_counted-file ∙ ap (λ b. kind_space (by_test sized b)) is_file

    pub space_within : paged was.length ≤ c.used_space
    space_within =
        let all = used_space-drop_node t inode (node_of_row (bytes inode) was) has.there in
        subst (λ n. n ≤ c.used_space) space_was (subst (λ n. node_space inode (node_of_row (bytes inode) was) ≤ n) (has_counters.space) (at_most _ _ _ all))
      where
        at_most : (x d a : ℕ) → x + d ≡ a → d ≤ a
        at_most x d a e = omega (arith, e)

    space_is : space + node_space inode (node_of_row (bytes inode) was) ≡ c.used_space + node_space inode (node_of_row (bytes inode) sized)
    space_is = ap (λ n. space + n) space_was ∙ back_again c.used_space (paged length) (paged was.length) space_within
        ∙ ap (λ n. c.used_space + n) (sym space_then)

    is_row : IsNodeRow was.nlink (bytes inode) sized
    is_row = IsNodeRow-length (bytes inode) was now was.nlink was.nlink length file
        (subst (λ l. IsNodeRow l (bytes inode) was) (sym has.links) has.row_is)

    pub tree-sized : tree_of bytes sized_rows ≡ put_node t inode (node_of_row (bytes inode) sized)
    tree-sized = tree_of-length bytes rows inode was sized c space (whole-stored bytes rows whole) counters there is_row refl space_is

    pub stored-sized : Stored sized_rows (tree_of bytes sized_rows)
    stored-sized = stored-length bytes rows inode was sized c space (whole-stored bytes rows whole) counters there is_row refl space_is

    pub shape-sized : WholeShape (shape_of (put_node t inode (node_of_row (bytes inode) sized)))
    shape-sized = whole_as _ _ (shape-put_node_same t inode (node_of_row (bytes inode) sized)
        (ap (λ b. form_of (Some (record (node_of_row (bytes inode) sized) { kind = by_test sized b }))) is_file ∙ sym regular)) (whole-shape bytes rows whole)

    -- the bytes of the file
    pub content_was : content_at t inode ≡ Some (content_of was.length (bytes inode))
    content_was = has.content ∙ ap (λ b. if b then Some (content_of was.length (bytes inode)) else None) is_file

  pub counters_stay : counters_at middle ≡ Some c
  counters_stay = ap (λ o. counters_in (row_in o)) (get-alter-apart row_key rows (node_key inode) (Some (Ok (OfNode sized))) counters_key apart) ∙ counters
    where
      apart : counters_key ≢ node_key inode
      apart same = absurd (cc)

  pub quiet-sized : Quiet rows sized_rows
  quiet-sized = quiet-put_counters rows middle (quiet-put_node rows rows (quiet-none rows) inode was sized there) c (record c { used_space = space })
      counters_stay refl

  cells-sized : AreRows sized_rows
  cells-sized =
      let counted = of_counters (record c { used_space = space }) in
      rows-alter middle counters_key (Some counted)
      (rows-alter rows (node_key inode) (Some (Ok (OfNode sized))) whole.cells
      (λ x. row-put (node_key inode) (Ok (OfNode sized)) x (again-row rows inode was sized whole.cells there refl)))
      (λ x. row-put counters_key counted x (record { key_is = refl; cell_is = refl; hour = refl }))

  tree_is-sized : WholeShape (shape_of (tree_of no_bytes sized_rows))
  tree_is-sized = subst (λ (t : Tree). WholeShape (shape_of t)) (sym (tree-sized no_bytes)) (shape-sized no_bytes)

  pub formed-sized : IsFormed sized_rows
  formed-sized = record { cells = cells-sized; stored = stored-sized no_bytes; tree = tree_is-sized }

  -- which files there are, and how long they are

  pub node-sized : node_row_at sized_rows inode ≡ Some sized
  node-sized = ap (λ o. node_in (row_in o)) (get-alter-apart row_key middle counters_key (Some (of_counters (record c { used_space = space }))) (node_key inode) apart)
      ∙ ap (λ o. node_in (row_in o)) (get-alter-here row_key rows (node_key inode) (Some (Ok (OfNode sized))))
    where
      apart : node_key inode ≢ counters_key
      apart same = absurd (cc)

  -- the row at any other key
  pub kept-sized : (key : RowKey) → key ≢ node_key inode → key ≢ counters_key → get sized_rows key ≡ get rows key
  kept-sized key not_node not_counters =
      get-alter-apart row_key middle counters_key (Some (of_counters (record c { used_space = space }))) key not_counters
      ∙ get-alter-apart row_key rows (node_key inode) (Some (Ok (OfNode sized))) key not_node

  pub counters-sized : counters_at sized_rows ≡ Some (record c { used_space = space })
  counters-sized = ap (λ o. counters_in (row_in o)) (get-alter-here row_key middle counters_key (Some (of_counters (record c { used_space = space }))))

  -- a file that isn't shortened shows nothing past its end
  module _ (longer : was.length ≤ length) (small : length ≤ FILE_END) where
    files-middle : WholeFiles middle
    files-middle = files-node rows inode (Some (Ok (OfNode sized))) whole.files
        (λ node is kind. let same : sized ≡ node = cc in subst (FileIs rows inode) same (Longer was there file longer small))
        (λ old here kind. OfFile sized (ap (λ o. node_in (row_in o)) (get-alter-here row_key rows (node_key inode) (Some (Ok (OfNode sized))))) file)
        (λ drop. let gone = (whole.files.gone inode drop).0 in absurd (cc))

    pub whole-sized : Whole sized_rows
    whole-sized = record {
      cells = cells-sized;
      stored = stored-sized no_bytes;
      tree = tree_is-sized;
      slices = quiet-slices rows sized_rows quiet-sized whole.slices;
      files = files-put_counters middle c (record c { used_space = space }) files-middle counters_stay refl (omega arith);
    }

  -- ---- a content that is put there

  module _ (bytes : ℕ → ℕ → ℕ) (content : Content) (long : content.length ≡ length) where
    abbrev before : Tree
    before = tree_of bytes rows

    abbrev node : Node
    node = node_of_row (bytes inode) was

    abbrev put : Node
    put = record (touched now node) { kind = File content }

    put_is : with_content before now inode content ≡ put_node before inode put
    put_is = ap (λ o. set_node before inode (option_map (λ (n : Node). record (touched now n) { kind = File content }) o)) (has bytes).there

    space_put : node_space inode put ≡ paged length
    space_put = node_space-counted inode put (is_counted-file bytes) ∙ ap paged long

    used_put : used_space (with_content before now inode content) ≡ space
    used_put =
        let all = used_space-with_content before now inode node content (has bytes).there in
        less_one c.used_space (paged length) (paged was.length) (used_space (with_content before now inode content))
        (ap (λ n. used_space (with_content before now inode content) + n) (sym (space_was bytes)) ∙ all
        ∙ (λ i. (has_counters bytes).space i + space_put i))

    -- whether the volume has room for it
    pub fits-sized : (setting : Setting) → setting_at rows ≡ Some setting
        → fits before (with_content before now inode content) ≡ sum_fits (space_limit setting) c.used_space space
    fits-sized setting set =
        (λ i. sum_fits (space_limit (found_setting bytes rows (whole-stored bytes rows whole) setting set i)) ((has_counters bytes).space i) (used_put i)
        && sum_fits (inode_limit before.setting) (used_inodes before) (used_inodes-with_content before now inode content i))
        ∙ same_inodes (sum_fits (space_limit setting) c.used_space space) (inode_limit before.setting) (used_inodes before)
      where
        same_inodes : (b : Bool) (limit n : ℕ) → (b && sum_fits limit n n) ≡ b
        same_inodes b limit n = ap (λ x. b && (nat_le n limit || x)) (le-leb n n (omega arith)) ∙ ap (λ x. b && x) (or_right (nat_le n limit) true refl) ∙ and_true b

    -- the tree that is left is the model's
    pub tree-content : (changed : ℕ → ℕ → ℕ) → ((other : ℕ) → other ≢ inode → changed other ≡ bytes other)
        → ((position : ℕ) → (if nat_lt position length then changed inode position else 0) ≡ content.byte position)
        → tree_of changed sized_rows ≡ with_content before now inode content
    tree-content changed others own =
        tree-sized changed ∙ same_put bytes changed rows inode (node_of_row (changed inode) sized) others
        ∙ ap (put_node before inode) node_is ∙ sym put_is
      where
        kind_is : (node_of_row (changed inode) sized).kind ≡ File content
        kind_is = ap (λ b. by_test changed sized b) (is_file changed)
            ∙ ap (λ n. File (content_of n (changed inode))) (sym long)
            ∙ ap File (content_is (changed inode) content (λ position. ap (λ n. if nat_lt position n then changed inode position else 0) long ∙ own position))

        node_is : node_of_row (changed inode) sized ≡ put
        node_is = λ i. record (touched now node) { kind = kind_is i }
