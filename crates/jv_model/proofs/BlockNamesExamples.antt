-- Names of blocks that are written out.
use Rattle.std.proofs.Common.{◌≡◌, ℕ, refl, codes}
use Rattle.std.specs.Prelude.{⊤}
use Rattle.std.specs.Fmt.{digits}
use Rattle.jv_model.specs.declared.setting.Setting.{Setting}
use Rattle.jv_model.specs.promise.blocks.BlockNames.{block_name_of}

abbrev pub setting_with : ℕ → Setting
setting_with hash = record {
  version = 1;
  block = 4194304;
  trash_days = 1;
  capacity = 0;
  inodes = 0;
  hash = hash;
  name = codes "test";
  bucket = codes "b";
}

-- on an `unfolding` line: computes the name of a block that is written out
unfoldable pub names_on_literals : ⊤
unfolding digits block_name_of
names_on_literals = tt

pub first_slice : (block_name_of (setting_with 0) 1 0 65536 ≡ codes "test/chunks/0/0/1_0_65536") × (block_name_of (setting_with 1) 1 0 65536 ≡ codes "test/chunks/01/0/1_0_65536")
unfolding names_on_literals
first_slice = (refl, refl)

pub later_slice : (block_name_of (setting_with 0) 1234567 3 4194304 ≡ codes "test/chunks/1/1234/1234567_3_4194304") × (block_name_of (setting_with 1) 1234567 3 4194304 ≡ codes "test/chunks/87/1/1234567_3_4194304")
unfolding names_on_literals
later_slice = (refl, refl)
