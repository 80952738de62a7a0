-- Words, computed by the definitions.
use Rattle.std.proofs.Common.{◌≡◌, false, [], ◌∷◌, None, Some, option_map, refl, codes}
use Rattle.clap.proofs.OnLiterals.{clap_on_literals}
use Rattle.jv_cmd.specs.declared.words.request.Command.TheVariants.{Format, Session}
use Rattle.jv_cmd.specs.promise.Program.{program_app}
use Rattle.jv_cmd.specs.promise.Values.{number_of_digits, number_within, digits_of, unit_of, block_size_of, place_of}
use Rattle.jv_cmd.specs.promise.Words.{asked, format_in, options_in, session_asked, setting_fields_in, stored_setting_in, where_allowed}

session_by_default : asked (codes "session" ∷ codes "sqlite3://v" ∷ []) ≡ Some (Session (codes "v") (record { cache = 64; buffer = 32; uploads = 20; writeback = false; cache_dir = codes "juicevol-cache"; generate = None }))
unfolding clap_on_literals program_app asked session_asked options_in number_within number_of_digits place_of
session_by_default = refl

drawn_session : asked (codes "session" ∷ codes "sqlite3://v" ∷ codes "--generate" ∷ codes "9999999999999999999" ∷ []) ≡ Some (Session (codes "v") (record { cache = 64; buffer = 32; uploads = 20; writeback = false; cache_dir = codes "juicevol-cache"; generate = Some 9999999999999999999 }))
unfolding clap_on_literals program_app asked session_asked options_in number_within number_of_digits place_of
drawn_session = refl

seed_of_20_digits : asked (codes "session" ∷ codes "sqlite3://v" ∷ codes "--generate" ∷ codes "10000000000000000000" ∷ []) ≡ None
unfolding clap_on_literals program_app asked session_asked options_in number_within number_of_digits place_of
seed_of_20_digits = refl

format_by_default : asked (codes "format" ∷ codes "sqlite3://v" ∷ codes "vol" ∷ codes "--bucket" ∷ codes "b" ∷ []) ≡ option_map (Format (codes "v")) (where_allowed (record { version = 1; block = 4194304; trash_days = 1; capacity = 0; inodes = 0; hash = 0; name = codes "vol"; bucket = codes "b" }))
unfolding clap_on_literals program_app asked format_in setting_fields_in stored_setting_in number_within number_of_digits digits_of unit_of block_size_of place_of
format_by_default = refl

another_scheme : asked (codes "session" ∷ codes "mysql://x" ∷ []) ≡ None
unfolding clap_on_literals program_app asked session_asked options_in number_within number_of_digits place_of
another_scheme = refl

compressed : asked (codes "format" ∷ codes "sqlite3://v" ∷ codes "vol" ∷ codes "--bucket" ∷ codes "b" ∷ codes "--compress" ∷ codes "lz4" ∷ []) ≡ None
unfolding clap_on_literals program_app asked format_in place_of
compressed = refl

no_power_of_two : asked (codes "format" ∷ codes "sqlite3://v" ∷ codes "vol" ∷ codes "--bucket" ∷ codes "b" ∷ codes "--block-size" ∷ codes "100" ∷ []) ≡ None
unfolding clap_on_literals program_app asked format_in setting_fields_in stored_setting_in number_of_digits digits_of unit_of block_size_of place_of
no_power_of_two = refl

no_words : asked [] ≡ None
unfolding clap_on_literals program_app asked
no_words = refl

help_is_refused : asked (codes "session" ∷ codes "--help" ∷ []) ≡ None
unfolding clap_on_literals program_app asked
help_is_refused = refl

twice : asked (codes "session" ∷ codes "sqlite3://v" ∷ codes "--cache-size" ∷ codes "5" ∷ codes "--cache-size=5" ∷ []) ≡ None
unfolding clap_on_literals program_app asked
twice = refl

without_a_bucket : asked (codes "format" ∷ codes "sqlite3://v" ∷ codes "vol" ∷ []) ≡ None
unfolding clap_on_literals program_app asked
without_a_bucket = refl
