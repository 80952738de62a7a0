use Rattle.std.proofs.Common.{◌<◌, length, sym, subst, arith}
use Rattle.jv_model.specs.declared.setting.Setting.{Setting}
use Rattle.jv_model.specs.promise.blocks.Slices.{block_count}
use Rattle.jv_client_shared.specs.Lengths.{IsLength}
use Rattle.jv_yard.specs.BlockCalls.{IsBlockParcel}
use Rattle.jv_client_puts.proofs.PartLaws.{part-parcel}
use Rattle.jv_client_puts.proofs.putting.put_block.Goals as goal

pub put_block-requires : goal.put_block-requires
put_block-requires g c =
    let setting = c.setting-setting.result.now in
    let parcel = c.in-Ok-send.parcel in
    let same = c.setting-setting.ensures in
    subst (λ (s : Setting). IsBlockParcel s parcel) same
    (part-parcel setting c.args.id c.args.index c.block_len-len.result c.args.now c.in-Ok.name c.args.bytes.now parcel
    (subst (λ (s : Setting). IsLength s.block) (sym same) c.requires.length)
    c.requires.named (omega arith) c.requires.short
    (subst (λ (s : Setting). c.args.index < block_count (length c.args.bytes.now) s.block) (sym same) c.requires.there)
    c.block_len-len.ensures.length c.in-Ok.ensures c.in-Ok-send.ensures.1)
