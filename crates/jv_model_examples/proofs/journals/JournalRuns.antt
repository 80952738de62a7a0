-- What closed examples of whole journals share.
use Rattle.std.specs.Prelude.{ℕ, false, List, [], Some, ⊤}
use Rattle.std.specs.List.{flat_map}
use Rattle.jv_model.specs.declared.act.Act.{Act}
use Rattle.jv_model.specs.declared.act.ActKind.{ActKind}
use Rattle.jv_model.specs.declared.op.Line.{Line}
use Rattle.jv_model.specs.declared.setting.Setting.{Setting}
use Rattle.jv_model.specs.tree.Tree.{fresh_tree}
use Rattle.jv_model.specs.promise.journal.Past.{Setup, begun_to, begin_next, advance, after}
use Rattle.jv_model.proofs.TreeComputeLaws.{tree_computes}
use Rattle.jv_model.specs.promise.script.ReplyText.{with_feed}
use Rattle.jv_model_examples.proofs.trees.TreeRuns.{plain_setting}

-- on an `unfolding` line: computes where a journal that is written out leads
unfoldable pub journals_compute : ⊤
unfolding begun_to begin_next advance after tree_computes
journals_compute = tt

-- one entry's proof, and those of the entries after it
infixr 5 ◌∴◌
pub ◌∴◌ : {A B : Type 0} → A → B → A × B
first ∴ others = (first, others)

-- a run on a volume just formatted, at a moment at which the clock stands, without uploading threads
abbrev pub run_on : Setting → ℕ → List Line → Setup
run_on setting now script = record {
  start = record { tree = fresh_tree setting now; shelved = λ inode position. []; next_slice = 1; records = 0 };
  script = script;
  limits = record { buffer = 33554432; entries = 16; writeback = false };
  uploads = 0;
  clock = Some (λ _. now);
  by_worker = λ _. false;
  status = 0;
}

abbrev pub run_of : List Line → Setup
run_of = run_on plain_setting 1000

-- an entry of a line, by a client
abbrev pub entry_at : ℕ → ℕ → ℕ → ActKind → Act
entry_at at line client kind = record { line = line; at = at; client = client; kind = kind }

abbrev pub entry : ℕ → ℕ → ActKind → Act
entry = entry_at 1000

-- lines of text
abbrev pub printed : List (List ℕ) → List ℕ
printed = flat_map with_feed
