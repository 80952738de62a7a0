use Rattle.std.proofs.Common.{◌≡◌, ◌-◌, ◌∙◌, List, [], subst}
use Rattle.jv_model.specs.declared.slice.BlockId.{BlockId}
use Rattle.jv_model.specs.promise.journal.Reading.{bytes_from}
use Rattle.jv_slices_reading.specs.Parts.{Part, ReadsAs, window_byte}
use Rattle.jv_slices_reading.proofs.PartLaws.{read_out}
use Rattle.jv_slices_reading.proofs.window.WindowRead.into_bytes.Goals as goal

pub returns : goal.returns
returns c = λ known_bytes reads.
    let w = c.self.inside in
    let with_left : List BlockId → Part = λ left. record { list = w.list.value; from = w.from; to = w.to; block = w.block; left = left; bytes = w.bytes.items } in
    let P : Part → Type 0 = λ p. p.left ≡ [] → ReadsAs known_bytes p → c.from_vec.result ≡ bytes_from (window_byte known_bytes p.list) p.from (p.to - p.from) in
    subst P c.self.view_is
    (λ none reads'. c.from_vec.ensures ∙ read_out known_bytes w.list.value w.from w.to w.block w.bytes.items c.self.invariant.long (subst (λ (left : List BlockId). ReadsAs known_bytes (with_left left)) none reads'))
    c.requires reads
