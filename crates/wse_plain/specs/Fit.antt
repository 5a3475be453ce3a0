-- Records that fit one another at a path, as one test. This project's own rule.
use Rattle.std.specs.Prelude.{Bool, not, ◌&&◌, List}
use Rattle.wse_path.specs.Path.{Path}
use Rattle.wse_element.specs.Record.{Record}
use Rattle.wse_element.specs.Live.{is_valid_at}
use Rattle.wse_element.specs.Stacks.{live_at}
use Rattle.wse_element.specs.Linked.{come_first, neighbours_meet}

abbrev pub fit_at : List Record → Path → Bool
fit_at records p =
    come_first (λ r. r.done) (live_at records p)
    && come_first (λ r. not (is_valid_at p r)) (live_at records p)
    && neighbours_meet p (live_at records p)
