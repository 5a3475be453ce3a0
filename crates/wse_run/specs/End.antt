-- How a run over a store ends. This project's own rule.
use Rattle.std.specs.Prelude.{◌≡◌, ⊤, ℕ, true}
use Rattle.wse_stream.specs.Runs.{Ending, otherwise}
use Rattle.wse_server.specs.declared.serving.ServeEnd.{ServeEnd}
use Rattle.wse_server.specs.declared.serving.ServeEnd.TheVariants as served
use Rattle.wse_run.specs.declared.end.RunEnd.{RunEnd}
use Rattle.wse_run.specs.declared.end.RunEnd.TheVariants.{Done, Read, Write, Disk, Memory, NotAStore, TooBig, InputLimit, Differs}

-- What the record of a run looks at. An end that tells why the store wasn't opened is none of its kinds.
abbrev pub ending_of : RunEnd → Ending
ending_of Done = record otherwise { done = true }
ending_of Read = record otherwise { read = true }
ending_of Write = record otherwise { write = true }
ending_of Disk = record otherwise { disk = true }
ending_of Memory = record otherwise { memory = true }
ending_of (NotAStore at) = otherwise
ending_of (TooBig hit) = otherwise
ending_of (InputLimit limit) = record otherwise { passed = true }
ending_of (Differs p) = otherwise

-- The end of serving.
abbrev pub end_of_served : (max_input : ℕ) → ServeEnd → RunEnd
end_of_served max_input served.Done = Done
end_of_served max_input served.Read = Read
end_of_served max_input served.Write = Write
end_of_served max_input served.Disk = Disk
end_of_served max_input served.Memory = Memory
end_of_served max_input (served.InputLimit taken) = InputLimit max_input

-- Lines were served, and so it may have ended.
abbrev pub IsServedEnd : (max_input : ℕ) → RunEnd → Type 0
IsServedEnd max_input Done = ⊤
IsServedEnd max_input Read = ⊤
IsServedEnd max_input Write = ⊤
IsServedEnd max_input Disk = ⊤
IsServedEnd max_input Memory = ⊤
IsServedEnd max_input (NotAStore at) = ⊥
IsServedEnd max_input (TooBig hit) = ⊥
IsServedEnd max_input (InputLimit limit) = limit ≡ max_input
IsServedEnd max_input (Differs p) = ⊥
