use Rattle.std.proofs.Common.{◌≡◌, refl, Bool, true, false, Option, Ok, sym, ap, subst, ◌∙◌}
use Rattle.std.specs.Prelude.{◌&&◌, nat_lt}
use Rattle.std.proofs.lemmas.Bool.{le-ltb, lt-ltb}
use Rattle.jv_model.specs.promise.Lists.{is_among}
use Rattle.jv_model.specs.declared.limits.TheConstants.{TRASH_ROOT}
use Rattle.jv_model.specs.declared.fault.Fault.TheVariants.{Stale}
use Rattle.jv_model.specs.declared.fault.Gone.TheVariants.{Node as GoneNode}
use Rattle.jv_model.specs.declared.row.Node.{Node}
use Rattle.jv_model.specs.declared.row.Row.TheVariants.{OfNode}
use Rattle.jv_model.specs.promise.rows.RowGrammar.{is_node}
use Rattle.jv_model.specs.promise.rows.RowPlaces.{node_key}
use Rattle.jv_rows.specs.Drafts.{Sees}
use Rattle.jv_links.specs.Removals.{MayLose}
use Rattle.jv_links.specs.declared.fates.Fate.TheVariants.{Trashed, Dropped, Sustained}
use Rattle.jv_rows_drafts.proofs.DraftStepLaws.{drafting-exit}
use Rattle.jv_links.proofs.losses.FateLaws.{fate-none, fate-no_setting, fate-made, says-trashed, says-sustained, says-dropped}
use Rattle.jv_links.proofs.fates.fate_of.Goals as goal
use Rattle.jv_links.proofs.fates.fate_of.Goals.{else-setting-gt0-via-then-setting-gt0+else-dir-lt-TRASH_ROOT, else-setting-gt0-via-else-setting-gt0}

both_false : (x y : Bool) → y ≡ false → (x && y) ≡ false
both_false true y e = e
both_false false y e = refl

pub returns-in_default-clause-does : goal.returns-in_default-clause-does
returns-in_default-clause-does g c caller place in_dir is_for =
    fate-none caller place c.args.inode c.args.draft.now (g.K.Keeper.seen c.args.k.now) (g.K.Keeper.seen c.node.new.k)
    (Stale (GoneNode c.args.inode))
    (subst (λ (o : Option Node). Sees OfNode is_node (node_key c.args.inode) c.args.draft.now
    (g.K.Keeper.seen c.args.k.now) (g.K.Keeper.seen c.node.new.k) (Ok o)) c.in_default.is c.in_ok-node.ensures)

pub returns-in_err-setting-clause-does : goal.returns-in_err-setting-clause-does
returns-in_err-setting-clause-does g c caller place in_dir is_for =
    drafting-exit (λ t. MayLose t caller place c.args.inode) c.args.draft.now c.args.draft.now
    (g.K.Keeper.seen c.args.k.now) (g.K.Keeper.seen c.needed_setting.new.k)
    (λ t. Ok t) c.from_residual-in_err-setting.result c.in_err-setting.field-0.0
    c.from_residual-in_err-setting.ensures.1
    (fate-no_setting caller place c.args.inode c.args.draft.now (g.K.Keeper.seen c.args.k.now)
    (g.K.Keeper.seen c.node.new.k) c.in-Some.node
    (subst (λ (o : Option Node). Sees OfNode is_node (node_key c.args.inode) c.args.draft.now
    (g.K.Keeper.seen c.args.k.now) (g.K.Keeper.seen c.node.new.k) (Ok o)) c.in-Some.is c.in_ok-node.ensures)
    (g.K.Keeper.seen c.needed_setting.new.k) c.in_err-setting.field-0.0 c.in_err-setting.ensures)

pub returns-then-dir-lt-TRASH_ROOT-clause-does : goal.returns-then-dir-lt-TRASH_ROOT-clause-does
returns-then-dir-lt-TRASH_ROOT-clause-does g c caller place in_dir is_for =
    fate-made caller place c.args.inode c.args.draft.now (g.K.Keeper.seen c.args.k.now) (g.K.Keeper.seen c.node.new.k)
    c.in-Some.node
    (subst (λ (o : Option Node). Sees OfNode is_node (node_key c.args.inode) c.args.draft.now
    (g.K.Keeper.seen c.args.k.now) (g.K.Keeper.seen c.node.new.k) (Ok o)) c.in-Some.is c.in_ok-node.ensures)
    (g.K.Keeper.seen c.needed_setting.new.k) c.in_ok-setting.setting c.in_ok-setting.ensures Trashed

pub returns-then-dir-lt-TRASH_ROOT-clause-says : goal.returns-then-dir-lt-TRASH_ROOT-clause-says
returns-then-dir-lt-TRASH_ROOT-clause-says g c caller place in_dir is_for =
    says-trashed caller place c.args.inode c.args.draft.now (g.K.Keeper.seen c.args.k.now)
    (g.K.Keeper.seen c.node.new.k) c.in-Some.node
    (subst (λ (o : Option Node). Sees OfNode is_node (node_key c.args.inode) c.args.draft.now
    (g.K.Keeper.seen c.args.k.now) (g.K.Keeper.seen c.node.new.k) (Ok o)) c.in-Some.is c.in_ok-node.ensures)
    (g.K.Keeper.seen c.needed_setting.new.k) c.in_ok-setting.setting c.in_ok-setting.ensures c.args.dir in_dir
    c.args.who.now.held is_for.held (le-ltb 1 c.in-Some.node.nlink c.if-node-gt1.false)
    (ap (λ b. b && nat_lt c.args.dir TRASH_ROOT) (lt-ltb 0 c.in_ok-setting.setting.trash_days c.if-setting-gt0.true)
    ∙ lt-ltb c.args.dir TRASH_ROOT c.if-dir-lt-TRASH_ROOT.true)

pub returns-then-contains-clause-does : goal.returns-then-contains-clause-does
returns-then-contains-clause-does g c caller place in_dir is_for =
    fate-made caller place c.args.inode c.args.draft.now (g.K.Keeper.seen c.args.k.now) (g.K.Keeper.seen c.node.new.k)
    c.in-Some.node
    (subst (λ (o : Option Node). Sees OfNode is_node (node_key c.args.inode) c.args.draft.now
    (g.K.Keeper.seen c.args.k.now) (g.K.Keeper.seen c.node.new.k) (Ok o)) c.in-Some.is c.in_ok-node.ensures)
    (g.K.Keeper.seen c.needed_setting.new.k) c.in_ok-setting.setting c.in_ok-setting.ensures Sustained

pub returns-then-contains-clause-says : goal.returns-then-contains-clause-says
returns-then-contains-clause-says g c caller place in_dir is_for =
    says-sustained caller place c.args.inode c.args.draft.now (g.K.Keeper.seen c.args.k.now)
    (g.K.Keeper.seen c.node.new.k) c.in-Some.node
    (subst (λ (o : Option Node). Sees OfNode is_node (node_key c.args.inode) c.args.draft.now
    (g.K.Keeper.seen c.args.k.now) (g.K.Keeper.seen c.node.new.k) (Ok o)) c.in-Some.is c.in_ok-node.ensures)
    (g.K.Keeper.seen c.needed_setting.new.k) c.in_ok-setting.setting c.in_ok-setting.ensures c.args.dir in_dir
    c.args.who.now.held is_for.held (le-ltb 1 c.in-Some.node.nlink c.if-node-gt1.false)
    (elim c.else-setting-gt0.branch [
      | else-setting-gt0-via-then-setting-gt0+else-dir-lt-TRASH_ROOT w ↦
          both_false (nat_lt 0 c.in_ok-setting.setting.trash_days) (nat_lt c.args.dir TRASH_ROOT)
          (le-ltb c.args.dir TRASH_ROOT w.if-dir-lt-TRASH_ROOT.false)
      | else-setting-gt0-via-else-setting-gt0 w ↦ ap (λ b. b && nat_lt c.args.dir TRASH_ROOT)
          (le-ltb 0 c.in_ok-setting.setting.trash_days w.if-setting-gt0.false)
    ])
    (ap (is_among c.args.inode) (sym c.as_slice.ensures) ∙ sym c.contains.ensures.value
    ∙ c.if-contains.true)

pub returns-clause-does : goal.returns-clause-does
returns-clause-does g c caller place in_dir is_for =
    fate-made caller place c.args.inode c.args.draft.now (g.K.Keeper.seen c.args.k.now) (g.K.Keeper.seen c.node.new.k)
    c.in-Some.node
    (subst (λ (o : Option Node). Sees OfNode is_node (node_key c.args.inode) c.args.draft.now
    (g.K.Keeper.seen c.args.k.now) (g.K.Keeper.seen c.node.new.k) (Ok o)) c.in-Some.is c.in_ok-node.ensures)
    (g.K.Keeper.seen c.needed_setting.new.k) c.in_ok-setting.setting c.in_ok-setting.ensures Dropped

pub returns-clause-says : goal.returns-clause-says
returns-clause-says g c caller place in_dir is_for =
    says-dropped caller place c.args.inode c.args.draft.now (g.K.Keeper.seen c.args.k.now)
    (g.K.Keeper.seen c.node.new.k) c.in-Some.node
    (subst (λ (o : Option Node). Sees OfNode is_node (node_key c.args.inode) c.args.draft.now
    (g.K.Keeper.seen c.args.k.now) (g.K.Keeper.seen c.node.new.k) (Ok o)) c.in-Some.is c.in_ok-node.ensures)
    (g.K.Keeper.seen c.needed_setting.new.k) c.in_ok-setting.setting c.in_ok-setting.ensures c.args.dir in_dir
    c.args.who.now.held is_for.held (le-ltb 1 c.in-Some.node.nlink c.if-node-gt1.false)
    (elim c.else-setting-gt0.branch [
      | else-setting-gt0-via-then-setting-gt0+else-dir-lt-TRASH_ROOT w ↦
          both_false (nat_lt 0 c.in_ok-setting.setting.trash_days) (nat_lt c.args.dir TRASH_ROOT)
          (le-ltb c.args.dir TRASH_ROOT w.if-dir-lt-TRASH_ROOT.false)
      | else-setting-gt0-via-else-setting-gt0 w ↦ ap (λ b. b && nat_lt c.args.dir TRASH_ROOT)
          (le-ltb 0 c.in_ok-setting.setting.trash_days w.if-setting-gt0.false)
    ])
    (ap (is_among c.args.inode) (sym c.as_slice.ensures) ∙ sym c.contains.ensures.value
    ∙ c.if-contains.false)
