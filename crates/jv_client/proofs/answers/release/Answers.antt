-- What is kept are the other inodes.
use Rattle.std.proofs.Common.{rules, not, sym, ap, ◌∙◌}
use Rattle.std.specs.Prelude.{◌==◌, if◌then◌else◌}
use Rattle.std.proofs.lemmas.Fn.{filter_same}
use Rattle.jv_client.specs.Ending.{without}
use Rattle.jv_client.proofs.answers.release.Goals as goal

pub returns-then-is_last : goal.returns-then-is_last
returns-then-is_last c =
    let gone = c.args.inode in
    let before = c.args.sustained.now.items in
    filter_same _ (λ inode. not (inode == gone)) _ (λ inode b after called. search rules) before
    c.retain.new.self.items c.retain.ensures.filtered
    ∙ ap (λ b. if b then without gone before else before) (sym c.if-is_last.true)
