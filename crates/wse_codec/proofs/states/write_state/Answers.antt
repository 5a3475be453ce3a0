use Rattle.std.proofs.Common.{List, subst}
use Rattle.std.specs.List.{All}
use Rattle.wse_path.specs.declared.change.Numbered.{Numbered}
use Rattle.wse_element.specs.Record.{Record}
use Rattle.wse_codec.specs.Allowed.{IsAllowedVersion, IsAllowedElement}
use Rattle.wse_codec.proofs.ShortLemmas.{versions_short, versions_count_short, elements_short, elements_count_short}
use Rattle.wse_codec.proofs.states.write_state.Goals as goal

pub returns-clause-allowed : goal.returns-clause-allowed
returns-clause-allowed c =
    let s = c.args.state.now in
    record {
      serial = c.in_ok-put_pair.ensures.fits.0;
      next_id = c.in_ok-put_pair.ensures.fits.1;
      versions = record {
        count = versions_count_short s.versions (versions_short s c.requires.short);
        rise = c.requires.rise;
        each = subst (λ (vs : List Numbered). All IsAllowedVersion vs) c.as_slice.ensures c.in_ok-put_versions.ensures.allowed;
      };
      elements = record {
        count = elements_count_short s.elements (elements_short s c.requires.short);
        each = subst (λ (es : List Record). All IsAllowedElement es) c.as_slice-2.ensures c.in_ok-put_elements.ensures.allowed;
      };
    }
