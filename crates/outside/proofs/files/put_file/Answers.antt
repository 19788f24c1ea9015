use Rattle.std.proofs.Common.{◌≡◌, ◌++◌, ◌∷◌, take, drop, rules, sym, ◌∙◌}
use Rattle.outside.specs.inner.Cut.{IsCut, is_before}
use Rattle.outside.proofs.Cuts.{put_at}
use Rattle.outside.proofs.files.put_file.Goals as goal

pub returns : goal.returns
returns c =
    let file = c.args.file in
    let files = c.args.files.now.items in
    let place = c.count_before-place.result in
    let path : c.as_bytes.result.now ≡ file.0 = search rules in
    let cut : IsCut (is_before file.0) files place = rw (path, c.deref.ensures.value) at c.count_before-place.ensures in
    let items : c.insert.new.self.items ≡ take place files ++ file ∷ drop place files = search rules in
    items ∙ sym (put_at file.0 file.1 files place cut.passing cut.failing c.requires.absent)
