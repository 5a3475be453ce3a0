-- Why a resource operation isn't done, in words. This project's own rule.
use Rattle.std.specs.Prelude.{ℕ, List, ◌++◌, codes}
use Rattle.wse_path.specs.Path.{text_of}
use Rattle.wse_resource.specs.declared.refused.OpRefused.{OpRefused}
use Rattle.wse_resource.specs.declared.refused.OpRefused.TheVariants as ops

abbrev pub operation_text : OpRefused → List ℕ
operation_text ops.Exists = codes "exists"
operation_text ops.IsFolder = codes "is a folder"
operation_text (ops.Beneath file) = codes "beneath the file " ++ text_of file
operation_text ops.NotFound = codes "not found"
operation_text ops.NotEmpty = codes "folder needs recursive"
operation_text ops.IntoItself = codes "into itself"
operation_text ops.HoldsSource = codes "target holds the source"
operation_text (ops.PathLimit from) = codes "path limit for " ++ text_of from
operation_text ops.Memory = codes "out of memory"
