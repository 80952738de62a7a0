use Rattle.std.proofs.Common.{◌≡◌, ◌≤◌, length, true, false, refl, arith}
use Rattle.jv_model.specs.declared.limits.TheConstants.{MAX_NAME}
use Rattle.jv_model.specs.promise.tree.Walk.{is_dot, is_dot_dot, is_trash}
use Rattle.jv_rows.proofs.walks.WalkLaws.{last_come}
use Rattle.jv_rows.proofs.walks.NameStepLaws.{no_directory, long_name, one_of_names, stays}
use Rattle.jv_rows.proofs.walking.step.Goals as goal

pub returns-then-place-ne2 : goal.returns-then-place-ne2
returns-then-place-ne2 g c = no_directory c.args.place.now.inode c.args.place.now.node c.args.name.now c.requires.stands c.if-place-ne2.true

pub returns-then-len-gt-MAX_NAME : goal.returns-then-len-gt-MAX_NAME
returns-then-len-gt-MAX_NAME g c =
    long_name c.args.place.now.inode c.args.place.now.node c.args.name.now c.requires.stands c.if-place-ne2.false (omega (arith, c.if-len-gt-MAX_NAME.true, c.len.ensures.length))

pub returns-in_ok-copied : goal.returns-in_ok-copied
returns-in_ok-copied g c =
    let short : length c.args.name.now ≤ MAX_NAME = omega (arith, c.if-len-gt-MAX_NAME.false, c.len.ensures.length) in
    let here : is_dot c.args.name.now ≡ true = cc in
    last_come (one_of_names c.args.place.now.inode c.args.place.now.node c.args.name.now c.requires.stands true (is_dot_dot c.args.name.now) (is_trash c.args.place.now.inode c.args.name.now)
    c.if-place-ne2.false short here refl refl)
    (stays c.args.place.now.inode c.args.place.now.node c.args.name.now c.requires.stands c.requires.allowed c.in_ok-copied.ensures)

pub returns-then-is_up : goal.returns-then-is_up
returns-then-is_up g c =
    let short : length c.args.name.now ≤ MAX_NAME = omega (arith, c.if-len-gt-MAX_NAME.false, c.len.ensures.length) in
    let here : is_dot c.args.name.now ≡ false = cc in
    let up : is_dot_dot c.args.name.now ≡ true = cc in
    last_come (one_of_names c.args.place.now.inode c.args.place.now.node c.args.name.now c.requires.stands false true (is_trash c.args.place.now.inode c.args.name.now)
    c.if-place-ne2.false short here up refl) c.parent.ensures.comes

pub returns-then-is_trash_of : goal.returns-then-is_trash_of
returns-then-is_trash_of g c =
    let short : length c.args.name.now ≤ MAX_NAME = omega (arith, c.if-len-gt-MAX_NAME.false, c.len.ensures.length) in
    let here : is_dot c.args.name.now ≡ false = cc in
    let up : is_dot_dot c.args.name.now ≡ false = cc in
    let trash : is_trash c.args.place.now.inode c.args.name.now ≡ true = cc in
    last_come (one_of_names c.args.place.now.inode c.args.place.now.node c.args.name.now c.requires.stands false false true c.if-place-ne2.false short here up trash) c.top.ensures

pub returns-else-is_trash_of : goal.returns-else-is_trash_of
returns-else-is_trash_of g c =
    let short : length c.args.name.now ≤ MAX_NAME = omega (arith, c.if-len-gt-MAX_NAME.false, c.len.ensures.length) in
    let here : is_dot c.args.name.now ≡ false = cc in
    let up : is_dot_dot c.args.name.now ≡ false = cc in
    let trash : is_trash c.args.place.now.inode c.args.name.now ≡ false = cc in
    last_come (one_of_names c.args.place.now.inode c.args.place.now.node c.args.name.now c.requires.stands false false false c.if-place-ne2.false short here up trash) c.child.ensures
