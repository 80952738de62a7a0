-- What words ask for, by what `clap` makes of them.
use Rattle.std.proofs.Common.{◌≡◌, ◌≢◌, ℕ, ◌≤◌, nat_le, Bool, true, false, IsTrue, [], ◌∷◌, List, Option, None, Some, Ok, Err, refl, ap, sym, subst, ◌∙◌, codes, bytes_eq}
use Rattle.std.specs.Prelude.{◌&&◌, if◌then◌else◌, IfSome, option_and_then, option_map}
use Rattle.jv_model.specs.declared.options.TheConstants.{MAX_CACHE, MIN_BUFFER, MAX_BUFFER, MAX_UPLOADS}
use Rattle.jv_model.specs.declared.setting.Setting.{Setting}
use Rattle.jv_model.specs.promise.rows.RowGrammar.{is_setting}
use Rattle.jv_model.proofs.TestLaws.{then_all}
use Rattle.clap.specs.Words.{Row, Text, Kinds, fault_of, first_of, subcommand_of, subcommand_rows_of}
use Rattle.clap.specs.declared.parser.matches.ArgMatches.{ArgMatches}
use Rattle.jv_cmd.specs.declared.words.request.Command.{Command}
use Rattle.jv_cmd.specs.declared.words.request.Command.TheVariants.{Format, Session}
use Rattle.jv_cmd.specs.declared.words.request.WordsFault.{WordsFault}
use Rattle.jv_cmd.specs.declared.words.request.WordsFault.TheVariants.{Refused, Memory}
use Rattle.std.proofs.lemmas.Bool.{leb-true}
use Rattle.jv_cmd.specs.Bounds.{AreAllowed}
use Rattle.jv_cmd.specs.promise.Program.{program_app}
use Rattle.jv_cmd.specs.promise.Values.{number_of_digits, number_within, place_of, within}
use Rattle.jv_cmd.specs.Words.{Answers, Parses, IsAllowedCommand, Refuses, HasFeed, SaysRefused}
use Rattle.jv_cmd.specs.promise.Words.{asked, command_at, command_in, read_by, format_in, session_asked, options_in, setting_asked, setting_fields_in, stored_setting_in, where_allowed, seed_of, value_in, is_built_store, is_given}

read_by_a_fault : (kinds : Kinds) (stop : Option (Text × List Row)) → kinds ≢ [] → read_by kinds stop ≡ None
read_by_a_fault [] stop h = absurd (h refl)
read_by_a_fault (k ∷ ks) stop h = refl

-- words that `clap` refuses ask for nothing
pub refused_words : (words : List Text) (fault : WordsFault) → Parses words (Err fault) → Answers (asked words) (Err fault)
unfolding asked
refused_words words (Refused text) h = read_by_a_fault (fault_of program_app words) (subcommand_of program_app words) h.0
refused_words words Memory h = tt

-- the others ask for what is read of the subcommand
pub asked_of : (words : List Text) (matches : ArgMatches) → Parses words (Ok matches) → asked words ≡ command_at (subcommand_rows_of matches)
unfolding asked
asked_of words matches h = ap (λ kinds. read_by kinds (subcommand_of program_app words)) h.0 ∙ ap command_at (sym h.1)

-- and are refused where that is nothing
pub off_words : (words : List Text) (fault : WordsFault) → asked words ≡ None → Answers (asked words) (Err fault)
off_words words (Refused text) e = e
off_words words Memory e = tt

-- what is said of words that `clap` refuses
pub Refuses-parsed : (words : List Text) (fault : WordsFault) → Parses words (Err fault) → Refuses words fault
Refuses-parsed words (Refused text) h = record { own = λ none. absurd (h.0 none); ends = h.1 }
Refuses-parsed words Memory h = tt

-- the program's own text
pub feed_of_own : (fault : WordsFault) → SaysRefused fault → HasFeed fault
feed_of_own (Refused text) h = record { line = codes "juicevol: words refused"; is = h }
feed_of_own Memory h = tt

pub Refuses-own : (words : List Text) (fault : WordsFault) → SaysRefused fault → Refuses words fault
Refuses-own words (Refused text) h = record { own = λ none. h; ends = feed_of_own (Refused text) h }
Refuses-own words Memory h = tt

-- what is asked for is allowed

all_mapped : {A B : Type 0} (o : Option A) (f : A → B) (P : B → Type 0) → IfSome o (λ a. P (f a)) → IfSome (option_map f o) P
all_mapped None f P h = tt
all_mapped (Some a) f P h = h

if_allowed : (allowed : Bool) (setting : Setting) → is_setting setting ≡ allowed → IfSome (if allowed then Some setting else None) (λ s. IsTrue (is_setting s))
if_allowed true setting e = e
if_allowed false setting e = tt

stored_allowed : (rows : List Row) → IfSome (stored_setting_in rows) (λ s. IsTrue (is_setting s))
unfolding stored_setting_in
stored_allowed rows = then_all (setting_fields_in rows) where_allowed (λ s. IsTrue (is_setting s)) (λ setting. if_allowed (is_setting setting) setting refl)

setting_allowed : (built : Bool) (rows : List Row) → IfSome (if built then stored_setting_in rows else None) (λ s. IsTrue (is_setting s))
setting_allowed true rows = stored_allowed rows
setting_allowed false rows = tt

format_allowed : (rows : List Row) → IfSome (format_in rows) IsAllowedCommand
unfolding format_in
format_allowed rows = then_all (value_in place_of (codes "url") rows) (λ place. option_map (Format place) (setting_asked rows)) IsAllowedCommand (λ place. all_mapped (setting_asked rows) (Format place) IsAllowedCommand (setting_allowed (is_built_store rows) rows))

-- a number that is read is in its range

record InRange (least most n : ℕ) : Type 0 where
  low : least ≤ n
  high : n ≤ most

within_range : (least most n : ℕ) (low high : Bool) → nat_le least n ≡ low → nat_le n most ≡ high
    → IfSome (if low && high then Some n else None) (InRange least most)
within_range least most n true true a b = record { low = leb-true least n a; high = leb-true n most b }
within_range least most n true false a b = tt
within_range least most n false high a b = tt

number_in_range : (least most : ℕ) (text : List ℕ) → IfSome (number_within least most text) (InRange least most)
unfolding number_within
number_in_range least most text = then_all (number_of_digits text) (within least most) (InRange least most)
    (λ n. within_range least most n (nat_le least n) (nat_le n most) refl refl)

value_in_range : (least most : ℕ) (id : Text) (rows : List Row) → IfSome (value_in (number_within least most) id rows) (InRange least most)
value_in_range least most id rows = then_all (first_of id rows) (number_within least most) (InRange least most) (number_in_range least most)

options_made : (staged : Bool) (cache buffer uploads : Option ℕ) (folder : Option Text) (seed : Option (Option ℕ)) → IfSome cache (InRange 0 MAX_CACHE)
    → IfSome buffer (InRange MIN_BUFFER MAX_BUFFER)
    → IfSome (option_and_then (λ c. option_and_then (λ b. option_and_then (λ u. option_and_then (λ f. option_and_then (λ g.
    Some (record { cache = c; buffer = b; uploads = u; writeback = staged; cache_dir = f; generate = g })) seed) folder) uploads) buffer) cache)
    AreAllowed
options_made staged None buffer uploads folder seed small range = tt
options_made staged (Some c) None uploads folder seed small range = tt
options_made staged (Some c) (Some b) None folder seed small range = tt
options_made staged (Some c) (Some b) (Some u) None seed small range = tt
options_made staged (Some c) (Some b) (Some u) (Some f) None small range = tt
options_made staged (Some c) (Some b) (Some u) (Some f) (Some g) small range = record { cache = small.high; least = range.low; most = range.high }

options_allowed : (rows : List Row) → IfSome (options_in rows) AreAllowed
unfolding options_in
options_allowed rows =
    options_made (is_given (codes "writeback") rows) (value_in (number_within 0 MAX_CACHE) (codes "cache-size") rows)
    (value_in (number_within MIN_BUFFER MAX_BUFFER) (codes "buffer-size") rows) (value_in (number_within 0 MAX_UPLOADS) (codes "max-uploads") rows)
    (first_of (codes "cache-dir") rows) (seed_of (first_of (codes "generate") rows)) (value_in_range 0 MAX_CACHE (codes "cache-size") rows)
    (value_in_range MIN_BUFFER MAX_BUFFER (codes "buffer-size") rows)

session_allowed : (rows : List Row) → IfSome (session_asked rows) IsAllowedCommand
unfolding session_asked
session_allowed rows = then_all (value_in place_of (codes "url") rows) (λ place. option_map (Session place) (options_in rows)) IsAllowedCommand (λ place. all_mapped (options_in rows) (Session place) IsAllowedCommand (options_allowed rows))

by_name : (is_format is_session : Bool) (rows : List Row) → IfSome (if is_format then format_in rows else (if is_session then session_asked rows else None)) IsAllowedCommand
by_name true is_session rows = format_allowed rows
by_name false true rows = session_allowed rows
by_name false false rows = tt

read_allowed : (kinds : Kinds) (stop : Option (Text × List Row)) → IfSome (read_by kinds stop) IsAllowedCommand
read_allowed [] stop = then_all stop (λ p. command_in p.0 p.1) IsAllowedCommand (λ p. by_name (bytes_eq p.0 (codes "format")) (bytes_eq p.0 (codes "session")) p.1)
read_allowed (k ∷ ks) stop = tt

pub asked_allowed : (words : List Text) (command : Command) → asked words ≡ Some command → IsAllowedCommand command
unfolding asked
asked_allowed words command e = subst (λ o. IfSome o IsAllowedCommand) e (read_allowed (fault_of program_app words) (subcommand_of program_app words))
