-- The end of a run whose store wasn't opened.
use Rattle.wse_recover.specs.declared.open.OpenFault.{OpenFault}
use Rattle.wse_recover.specs.declared.open.OpenFault.TheVariants as opens
use Rattle.wse_run.specs.declared.end.RunEnd.{RunEnd}
use Rattle.wse_run.specs.declared.end.RunEnd.TheVariants.{Disk, Memory, NotAStore, TooBig, Differs}

abbrev pub end_of_fault : {D : Type 0} → OpenFault D → RunEnd
end_of_fault (opens.Disk disk) = Disk
end_of_fault (opens.NotAStore disk at) = NotAStore at
end_of_fault (opens.TooBig disk which found) = TooBig (record { which = which; would_be = found })
end_of_fault (opens.Differs disk p) = Differs p
end_of_fault (opens.Memory disk) = Memory
