-- What only inner contracts cite: of `promise/tree/Tree`.
use Rattle.std.specs.Prelude.{ℕ, ◌+◌}
use Rattle.jv_model.specs.declared.limits.TheConstants.{ROOT, TRASH_ROOT, FULL_MODE, READ_ONLY_MODE}
use Rattle.jv_model.specs.declared.setting.Setting.{Setting}
use Rattle.jv_model.specs.promise.FiniteMap.{empty_map, insert}
use Rattle.jv_model.specs.promise.tree.Tree.{Directory, Tree, new_node}

-- the tree of a volume that was just formatted
abbrev pub fresh_tree : Setting → ℕ → Tree
fresh_tree setting now = record {
  setting = setting;
  nodes = insert (insert empty_map ROOT (new_node (Directory ROOT) FULL_MODE now))
      TRASH_ROOT (new_node (Directory ROOT) READ_ONLY_MODE now);
  entries = empty_map;
  sessions = empty_map;
  sustained = empty_map;
  next_inode = ROOT + 1;
  next_session = 1;
}
