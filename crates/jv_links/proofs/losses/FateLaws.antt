-- What becomes of what loses an entry, by the rows of its node and of the setting.
use Rattle.std.proofs.Common.{◌≡◌, ℕ, ◌+◌, Bool, true, false, not, ◌&&◌, ◌==◌, List, None, Some, is_some, Result, Ok, Err, refl, sym, ap, ◌∙◌, arith}
use Rattle.std.specs.Prelude.{nat_lt, nat_le, if◌then◌else◌}
use Rattle.jv_model.specs.promise.Lists.{is_among}
use Rattle.std.proofs.lemmas.Bool.{false≢true, false_from_ne_true, leb-true, leb-false, ltb-true, lt-ltb}
use Rattle.jv_model.specs.declared.limits.TheConstants.{TRASH_ROOT}
use Rattle.jv_model.specs.declared.fault.Fault.{Fault}
use Rattle.jv_model.specs.declared.fault.RowFault.{RowFault}
use Rattle.jv_model.specs.declared.fault.TxFault.{TxFault}
use Rattle.jv_model.specs.declared.fault.TxFault.TheVariants.{Refused, Rows as OfRows}
use Rattle.jv_model.specs.declared.row.Node.{Node as NodeRow}
use Rattle.jv_model.specs.declared.row.Row.TheVariants.{OfNode, OfSetting}
use Rattle.jv_model.specs.declared.setting.Setting.{Setting}
use Rattle.jv_model.specs.promise.FiniteMap.{sum_over}
use Rattle.jv_model.specs.promise.rows.RowGrammar.{is_node, is_setting}
use Rattle.jv_model.specs.promise.rows.RowKeys.{RowMap}
use Rattle.jv_model.specs.promise.rows.RowPlaces.{setting_key, node_key}
use Rattle.jv_model.specs.promise.tree.Caller.{Caller}
use Rattle.jv_model.specs.promise.tree.Tree.{Tree, EntryKey, in_trash, is_directory, entry_count, link_count, node_at}
use Rattle.jv_outside.specs.declared.batch.Change.{Change}
use Rattle.jv_outside.specs.promise.Store.{Store}
use Rattle.jv_rows.specs.Drafts.{drafted, Sees, Needs}
use Rattle.jv_volume.specs.promise.TreeOf.{tree_of}
use Rattle.jv_volume.specs.promise.Views.{row_in, node_in, setting_in}
use Rattle.jv_volume.proofs.shapes.ShapeMapLaws.{is_there-form}
use Rattle.jv_volume.proofs.stored.StoredLaws.{HasNode, found_node, no_node, found_setting}
use Rattle.jv_rows_drafts.specs.Drafting.{Minds, Drafting}
use Rattle.jv_rows_drafts.proofs.DraftedLaws.{Stays, stays-none, stays-then, stays-sees, stays-needs, seen-stands, needed-stands, drafting-unread, drafting-lacking, drafting-refused, drafting-made}
use Rattle.jv_links.specs.declared.fates.Fate.{Fate}
use Rattle.jv_links.specs.declared.fates.Fate.TheVariants.{Linked, Trashed, Dropped, Sustained}
use Rattle.jv_links.specs.Removals.{MayLose, SaysFate, fate_in}
use Rattle.jv_links.proofs.losses.LossLaws.{fate_by}

-- the links of a file or a symlink are its entries
link_count-leaf : (t : Tree) (inode : ℕ) → is_directory t inode ≡ false → link_count t inode ≡ entry_count t inode
link_count-leaf t inode leaf =
    ap (λ b. if b then 2 + sum_over (λ (key : EntryKey) other. if key.dir == inode && is_directory t other then 1
    else 0) t.entries else entry_count t inode) leaf

module _ (caller : Caller) (place : EntryKey) (inode : ℕ) (draft : List Change) (before middle : Store) where
  abbrev ready : Tree → Type 0
  ready t = MayLose t caller place inode

  abbrev stay : Tree → Result Tree Fault
  stay t = Ok t

  -- its row wasn't read
  pub fate-unread : (fault : RowFault) → Sees OfNode is_node (node_key inode) draft before middle (Err fault)
      → Drafting {A = Fate} ready draft draft before middle (Err (OfRows fault)) stay
  fate-unread fault s = drafting-unread ready draft draft before before (stays-none before) stay OfNode is_node
      (node_key inode) middle fault s

  -- it isn't there, which can't be
  pub fate-none : (fault : Fault) → Sees OfNode is_node (node_key inode) draft before middle (Ok None)
      → Drafting {A = Fate} ready draft draft before middle (Err (Refused fault)) stay
  fate-none fault s = drafting-refused ready draft draft before middle
      (stays-sees OfNode is_node (node_key inode) draft before middle None s) stay fault (λ known is bytes t m r.
      let cell = seen-stands OfNode is_node (node_key inode) draft before middle None s known is in
      let none : node_at t inode ≡ None = ap (λ (u : Tree). node_at u inode) (sym m.tree)
      ∙ no_node bytes (drafted draft known) inode (ap (λ c. node_in (row_in c)) cell) in
      let there : is_some (node_at t inode) ≡ true = sym (is_there-form (node_at t inode))
      ∙ (r.whole.entry place inode r.is).there in
      absurd (false≢true (sym (ap is_some none) ∙ there)))

  module _ (row : NodeRow) (s : Sees OfNode is_node (node_key inode) draft before middle (Ok (Some row))) where
    so_far : Stays before middle
    so_far = stays-sees OfNode is_node (node_key inode) draft before middle (Some row) s

    -- its links are its entries
    links_are : (known : RowMap) → before.rows ≡ Some known → (bytes : ℕ → ℕ → ℕ) (t : Tree) → Minds known draft bytes t
        → MayLose t caller place inode
        → entry_count t inode ≡ row.nlink
    links_are known is bytes t m r =
        let cell = seen-stands OfNode is_node (node_key inode) draft before middle (Some row) s known is in
        let has : HasNode (tree_of bytes (drafted draft known)) inode row (bytes inode) =
        found_node bytes (drafted draft known) m.stored inode row (ap (λ c. node_in (row_in c)) cell) in
        sym (has.links ∙ ap (λ (u : Tree). link_count u inode) m.tree ∙ link_count-leaf t inode r.leaf)

    made_by : (after : Store) (fate : Fate) → Stays before after
        → Drafting ready draft draft before after (Ok fate) stay
    made_by after fate p = drafting-made ready draft draft before after p stay fate (λ are. are)
        (λ known is bytes t m r. record { left = t; is = refl; minds = m })

    -- what is answered of the model's fate
    several_is : (b : Bool) → nat_lt 1 row.nlink ≡ b → (known : RowMap) → before.rows ≡ Some known
        → (bytes : ℕ → ℕ → ℕ) (t : Tree) → Minds known draft bytes t
        → MayLose t caller place inode → nat_lt 1 (entry_count t inode) ≡ b
    several_is b e known is bytes t m r = ap (nat_lt 1) (links_are known is bytes t m r) ∙ e

    -- it has other entries
    pub fate-linked : Drafting ready draft draft before middle (Ok Linked) stay
    fate-linked = made_by middle Linked so_far

    pub says-linked : nat_lt 1 row.nlink ≡ true → SaysFate caller place inode draft before (Ok Linked)
    says-linked several known is bytes t m r =
        sym (ap (λ b. fate_in (fate_by b (nat_lt 0 t.setting.trash_days && not (in_trash place.dir))
        (is_among inode caller.held)))
        (several_is true several known is bytes t m r))

    module _ (after : Store) where
      -- the setting wasn't read
      pub fate-no_setting : (fault : TxFault) → Needs OfSetting is_setting setting_key draft middle after (Err fault)
          → Drafting {A = Fate} ready draft draft before after (Err fault) stay
      fate-no_setting fault n = drafting-lacking ready draft draft before middle so_far stay OfSetting is_setting
          setting_key after fault refl
          (λ known bytes t m is_ready. ap is_some m.stored.setting) n

      module _ (setting : Setting) (n : Needs OfSetting is_setting setting_key draft middle after (Ok setting)) where
        -- its last entry goes
        pub fate-made : (fate : Fate) → Drafting ready draft draft before after (Ok fate) stay
        fate-made fate = made_by after fate
            (stays-then before middle after so_far
            (stays-needs OfSetting is_setting setting_key draft middle after setting n))

        setting_is : (known : RowMap) → before.rows ≡ Some known → (bytes : ℕ → ℕ → ℕ) (t : Tree)
            → Minds known draft bytes t → t.setting ≡ setting
        setting_is known is bytes t m =
            let cell = needed-stands OfSetting is_setting setting_key draft middle after setting n known
            (s.rows_are ∙ is) in
            ap (λ (u : Tree). u.setting) (sym m.tree) ∙ found_setting bytes (drafted draft known) m.stored setting
            (ap (λ c. setting_in (row_in c)) cell)

        not_le : (a b : ℕ) (c : Bool) → nat_le a b ≡ c → not c ≡ nat_lt b a
        not_le a b true e = sym (false_from_ne_true (nat_lt b a)
            (λ less. (let low = leb-true a b e in let high = ltb-true b a less in absurd (omega (arith, low, high)))))
        not_le a b false e = sym (lt-ltb b a (leb-false a b e))

        module _ (dir : ℕ) (in_dir : place.dir ≡ dir) (held : List ℕ) (held_is : caller.held ≡ held)
            (few : nat_lt 1 row.nlink ≡ false) where
          told : (days used : Bool) → (nat_lt 0 setting.trash_days && nat_lt dir TRASH_ROOT) ≡ days
              → is_among inode held ≡ used → (fate : Fate)
              → fate ≡ fate_in (fate_by false days used) → SaysFate caller place inode draft before (Ok fate)
          told days used days_are used_is fate fate_is known is bytes t m r =
              let day_test : (nat_lt 0 t.setting.trash_days && not (in_trash place.dir)) ≡ days =
              ap (λ (x : Setting). nat_lt 0 x.trash_days && not (in_trash place.dir)) (setting_is known is bytes t m)
              ∙ ap (λ b. nat_lt 0 setting.trash_days && b)
              (not_le TRASH_ROOT place.dir (nat_le TRASH_ROOT place.dir) refl ∙ ap (λ d. nat_lt d TRASH_ROOT)
              in_dir) ∙ days_are in
              fate_is ∙ sym (ap (λ b. fate_in
              (fate_by b (nat_lt 0 t.setting.trash_days && not (in_trash place.dir))
              (is_among inode caller.held)))
              (several_is false few known is bytes t m r)
              ∙ ap (λ b. fate_in (fate_by false b (is_among inode caller.held))) day_test
              ∙ ap (λ b. fate_in (fate_by false days b)) (ap (is_among inode) held_is ∙ used_is))

          -- it goes to the trash
          pub says-trashed : (nat_lt 0 setting.trash_days && nat_lt dir TRASH_ROOT) ≡ true
              → SaysFate caller place inode draft before (Ok Trashed)
          says-trashed days = told true (is_among inode held) days refl Trashed refl

          -- the session keeps it
          pub says-sustained : (nat_lt 0 setting.trash_days && nat_lt dir TRASH_ROOT) ≡ false
              → is_among inode held ≡ true
              → SaysFate caller place inode draft before (Ok Sustained)
          says-sustained days used = told false true days used Sustained refl

          -- it is gone
          pub says-dropped : (nat_lt 0 setting.trash_days && nat_lt dir TRASH_ROOT) ≡ false
              → is_among inode held ≡ false
              → SaysFate caller place inode draft before (Ok Dropped)
          says-dropped days used = told false false days used Dropped refl
