use Rattle.std.proofs.Common.{◌++◌, codes, map, ap, ◌∙◌}
use Rattle.module_code.specs.Quoted.{quoted_text, with_commas}
use Rattle.chunk_code.proofs.Parts.{added}
use Rattle.chunk_code.specs.Runtime.{runtime_functions}
use Rattle.chunk_code.specs.Texts.{file_text}
use Rattle.chunk_code.proofs.runtime.add_runtime.Goals as goal

pub returns : goal.returns
returns c =
    let old = c.args.text.now.items in
    let path = quoted_text c.args.public_path.now in
    let before = codes "self.__chunkpack.u=" in
    let between = codes ";\nself.__chunkpack.f={" in
    let files = with_commas (map file_text c.args.files.now) in
    let functions = c.in_ok-add.ensures ∙ ap (λ part. old ++ part) (c.as_bytes.ensures.value ∙ c.runtime_functions.ensures) in
    added old (runtime_functions ++ before ++ path ++ between ++ files) (codes "};\n") _ _
    (added old (runtime_functions ++ before ++ path ++ between) files _ _
    (added old (runtime_functions ++ before ++ path) between _ _
    (added old (runtime_functions ++ before) path _ _
    (added old runtime_functions before _ _ functions c.in_ok-add-2.ensures) c.in_ok-add_quoted.ensures) c.in_ok-add-3.ensures) c.in_ok-add_files.ensures) c.in_ok-add-4.ensures
