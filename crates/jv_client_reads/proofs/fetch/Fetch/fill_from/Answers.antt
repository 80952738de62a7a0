use Rattle.std.proofs.Common.{sym, ap, ◌∙◌}
use Rattle.jv_client_reads.specs.declared.fetch.FetchCourse.{FetchCourse}
use Rattle.jv_client_reads.specs.Fetching.{Fetching}
use Rattle.jv_client_reads.specs.Inside.{parts_of, reads_of, waiting}
use Rattle.jv_client_reads.proofs.fetch.Fetch.fill_from.Goals as goal

pub returns : goal.returns
returns c =
    let begun = c.in-Some.begun in
    let part = c.fill_cached.new.part in
    record {
      begun = begun;
      part = part;
      was = ap (λ (f : Fetching). f.begun) (sym c.self.view_is)
          ∙ ap (λ (course : FetchCourse). course.begun) (sym c.deref_mut.ensures.value) ∙ c.in-Some.is;
      fills = c.fill_cached.ensures;
      is = ap (λ (course : FetchCourse). waiting begun part (record {
        block = c.self.inside.block;
        parts = parts_of course.parts;
        begun = course.begun;
        read = reads_of course.first course.second;
      })) c.deref_mut.ensures.value ∙ ap (waiting begun part) c.self.view_is;
    }
