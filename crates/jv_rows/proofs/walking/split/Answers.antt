use Rattle.jv_rows.proofs.grammars.NamesLaws.{names_from_start}
use Rattle.jv_rows.proofs.walking.split.Goals as goal

pub loop-byte-init : goal.loop-byte-init
loop-byte-init c = rw (c.new-names.ensures, c.new-name.ensures) (names_from_start c.args.path.now)
