-- One operation: what it comes to, by its draft.
use Rattle.std.proofs.Common.{◌≡◌, ◌⊎◌, inl, inr, true, false, List, Result, Ok, Err, refl, sym, ap, subst, ◌∙◌}
use Rattle.std.specs.Prelude.{if◌then◌else◌}
use Rattle.wse_path.specs.Tree.{Entries, IsTree}
use Rattle.wse_path.specs.Changes.{changes_between, LeadToTree}
use Rattle.wse_path.specs.declared.change.Change.{Change}
use Rattle.wse_path.specs.declared.edit.Operation.{Operation}
use Rattle.wse_path.specs.declared.operation.ResourceOp.{ResourceOp}
use Rattle.wse_resource.specs.Operated.{operated}
use Rattle.wse_resource.specs.declared.refused.OpRefused.{OpRefused}
use Rattle.wse_resource.specs.declared.refused.OpRefused.TheVariants as op
use Rattle.wse_apply.specs.Setting.{SettingState}
use Rattle.wse_apply.specs.Stop.{changed_to}
use Rattle.wse_apply.specs.Next.{changed_by, resource_next, done_next, next}
use Rattle.wse_apply.specs.Draft.{LeadTo, IsDraftOf, IsStopOf, LeavesUnlessMemory}
use Rattle.wse_apply.specs.StopFor.{stop_for}
use Rattle.wse_apply.specs.declared.reason.Reason.{Reason}
use Rattle.wse_apply.specs.declared.reason.Reason.TheVariants.{Op}
use Rattle.wse_apply.specs.declared.stop.Stop.{Stop}
use Rattle.wse_apply.specs.declared.stop.Stop.TheVariants.{Refused, Memory}

-- ---- a resource operation

pub other_reason : (why : OpRefused) → (why ≡ op.Memory → ⊥) → Refused (Op why) ≡ stop_for why
other_reason op.Memory h = absurd (h refl)
other_reason why h = refl

stops : (given : Result Entries Reason) (why : OpRefused) → given ≡ Err (Op why) → IsStopOf given (stop_for why)
stops given op.Memory h = tt
stops given why h = h

-- tried over the files, it changes what it is to change
pub resource_draft : (setting : SettingState) (o : ResourceOp) (files base old new : Entries) (cs : List Change) → base ≡ files → old ≡ files → IsTree new → operated old o ≡ Ok new → cs ≡ changes_between base new → IsDraftOf setting files (resource_next setting files o) cs
resource_draft setting o files base old new cs a b tree done between = record {
  new = new;
  leads = record { tree = tree; between = between ∙ ap (λ (es : Entries). changes_between es new) a };
  next_is = ap (changed_by setting files) (ap (λ (es : Entries). operated es o) (sym b) ∙ done);
}

pub resource_refused : (setting : SettingState) (o : ResourceOp) (files old new : Entries) (why : OpRefused) → old ≡ files → (why ≡ op.Memory) ⊎ ((operated old o ≡ Err why) × (new ≡ old)) → IsStopOf (resource_next setting files o) (stop_for why)
resource_refused setting o files old new why b (inl memory) = subst (λ w. IsStopOf (resource_next setting files o) (stop_for w)) (sym memory) tt
resource_refused setting o files old new why b (inr refused) =
    stops (resource_next setting files o) why (ap (changed_by setting files) (ap (λ (es : Entries). operated es o) (sym b) ∙ refused.0))

-- ---- any operation

pub skipped_next : (setting : SettingState) (files : Entries) (o : Operation) → o.skipped ≡ true → next setting files o ≡ Ok files
skipped_next setting files o h = ap (λ b. if b then Ok files else done_next setting files o.what) h

pub live_next : (setting : SettingState) (files : Entries) (o : Operation) → o.skipped ≡ false → next setting files o ≡ done_next setting files o.what
live_next setting files o h = ap (λ b. if b then Ok files else done_next setting files o.what) h

pub live_stop : (setting : SettingState) (files : Entries) (o : Operation) (why : Stop) → o.skipped ≡ false → IsStopOf (done_next setting files o.what) why → IsStopOf (next setting files o) why
live_stop setting files o why h is = subst (λ n. IsStopOf n why) (sym (live_next setting files o h)) is

pub stays : (files : Entries) (why : Stop) → LeavesUnlessMemory files files why
stays files (Refused why) = refl
stays files Memory = tt

pub draft_leads : (setting : SettingState) (files : Entries) (given : Result Entries Reason) (cs : List Change) → IsTree files → IsDraftOf setting files given cs → LeadToTree files cs
draft_leads setting files given cs tree draft = record { old = tree; new = draft.new; tree = draft.leads.tree; between = draft.leads.between }

pub accepted_next : (setting : SettingState) (files now : Entries) (o : Operation) (cs : List Change) → o.skipped ≡ false → IsDraftOf setting files (done_next setting files o.what) cs → ((new : Entries) → LeadTo files cs new → changed_to setting files new ≡ Ok now) → next setting files o ≡ Ok now
accepted_next setting files now o cs h draft done = live_next setting files o h ∙ draft.next_is ∙ done draft.new draft.leads

pub stopped_next : (setting : SettingState) (files : Entries) (o : Operation) (cs : List Change) (why : Stop) → o.skipped ≡ false → IsDraftOf setting files (done_next setting files o.what) cs → ((new : Entries) → LeadTo files cs new → IsStopOf (changed_to setting files new) why) → IsStopOf (next setting files o) why
stopped_next setting files o cs why h draft stop = subst (λ n. IsStopOf n why) (sym (live_next setting files o h ∙ draft.next_is)) (stop draft.new draft.leads)
