-- What the options of a session bound.
use Rattle.std.specs.Prelude.{ℕ, zero, suc, ◌*◌, ◌/◌, max, false}
use Rattle.jv_model.specs.declared.basics.Limits.{Limits}
use Rattle.jv_model.specs.declared.limits.TheConstants.{MIB}
use Rattle.jv_cmd.specs.declared.words.request.SessionOptions.{SessionOptions}

-- the blocks of this length that a client's cache of a number of MiB holds: one at least, and none
-- where it is empty
abbrev pub cache_entries : ℕ → ℕ → ℕ
cache_entries zero block = 0
cache_entries (suc more) block = max 1 (suc more * MIB / block)

-- the limits of a session over a volume whose blocks have this length
abbrev pub limits_of : SessionOptions → ℕ → Limits
limits_of options block = record {
  buffer = options.buffer * MIB;
  entries = cache_entries options.cache block;
  writeback = false;
}
