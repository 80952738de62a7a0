-- What only inner contracts cite: of `promise/Texts`.
use Rattle.std.specs.Prelude.{ℕ, Bool, List}
use Rattle.std.specs.List.{list_any}
use Rattle.jv_cmd.specs.promise.Texts.{is_feed}

abbrev pub has_feed : List ℕ → Bool
has_feed = list_any is_feed
