-- What a slow reader answers. This project's own rule.
use Rattle.wse_disk.specs.Reading.{Reading}
use Rattle.wse_txn.specs.Stands.{StandsFor, IsNoStore}
use Rattle.wse_slow_reader.specs.declared.read.SlowlyRead.{SlowlyRead}
use Rattle.wse_slow_reader.specs.declared.read.SlowlyRead.TheVariants.{Store, NoStore}

-- The state that the image stands for, or the place where it is no store.
abbrev pub IsRead : Reading → SlowlyRead → Type 0
IsRead image (Store s) = StandsFor s image
IsRead image (NoStore at) = IsNoStore image at
