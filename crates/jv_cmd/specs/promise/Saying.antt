-- What standard error gains.
use Rattle.std.specs.Prelude.{◌≡◌, List, ℕ}
use Rattle.jv_model.specs.promise.script.ReplyText.{with_feed}
use Rattle.jv_outside.specs.promise.Stream.{Stream, HasAll, IsCut}

-- a whole text was written, or a proper prefix, where standard error failed
pub data Says (before after : Stream) (text : List ℕ) : Type 0 where
  Said : HasAll before after text → Says before after text
  Cut : IsCut before after text → Says before after text

-- the last byte is a line feed
pub record EndsInFeed (text : List ℕ) : Type 0 where
  pub line : List ℕ
  pub is : text ≡ with_feed line
