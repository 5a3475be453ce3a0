use Rattle.std.proofs.Common.{◌≡◌, ◌⊎◌, IfOk, Ok, sym, subst}
use Rattle.wse_disk.specs.LeavesOnly.{LeavesOnly}
use Rattle.wse_disk.specs.Told.{IsTold}
use Rattle.wse_element.specs.State.{State}
use Rattle.wse_txn.specs.Stands.{StandsFor}
use Rattle.wse_engine.proofs.EngineLemmas.{stays_on}
use Rattle.wse_reply.specs.Reply.{reply_text}
use Rattle.wse_reply.specs.declared.reply.Reply.{Reply}
use Rattle.wse_server.specs.Stopping.{disk_after}
use Rattle.wse_store.specs.Store.{Setting, after_line}
use Rattle.wse_store.specs.declared.store.StoreServer.{StoreServer}
use Rattle.wse_store.proofs.StoreLemmas.{after_read, reply_read}
use Rattle.wse_store.proofs.server.StoreServerServer.line.Goals as goal

-- a command is done
pub returns-in-Ok-clause-state : goal.returns-in-Ok-clause-state
returns-in-Ok-clause-state g c =
    let e = c.args.self.engine in
    let setting : Setting = record { root = c.args.self.root; limits = e.limits } in
    subst (λ (s : State). IfOk c.done.result (λ done. done.0.engine.state ≡ s)) (sym (after_read setting e.state c.args.line.now (Ok c.in-Ok.command) c.requires c.in-Ok.ensures.read)) c.done.ensures.state

pub returns-in-Ok-clause-text : goal.returns-in-Ok-clause-text
returns-in-Ok-clause-text g c =
    let e = c.args.self.engine in
    let setting : Setting = record { root = c.args.self.root; limits = e.limits } in
    subst (λ (r : Reply). IfOk c.done.result (λ done. done.1.items ≡ reply_text c.args.n r)) (sym (reply_read setting e.state c.args.line.now (Ok c.in-Ok.command) c.requires c.in-Ok.ensures.read)) c.done.ensures.text

pub returns-in-Ok-clause-images : goal.returns-in-Ok-clause-images
returns-in-Ok-clause-images g c =
    let e = c.args.self.engine in
    let setting : Setting = record { root = c.args.self.root; limits = e.limits } in
    let left = disk_after {R = StoreServer g.row.D.Denot g.D.Disk} (λ server. server.engine.disk) c.done.result in
    subst (λ (s : State). IsTold (g.D.Disk.told e.disk) → LeavesOnly (g.D.Disk.told e.disk) (g.D.Disk.told left) (λ image. StandsFor e.state image ⊎ StandsFor s image))
    (sym (after_read setting e.state c.args.line.now (Ok c.in-Ok.command) c.requires c.in-Ok.ensures.read)) c.done.ensures.images

-- a line is refused
pub returns-in-Err-clause-images : goal.returns-in-Err-clause-images
returns-in-Err-clause-images g c =
    let e = c.args.self.engine in
    stays_on g.D.Disk.told e (disk_after {R = StoreServer g.row.D.Denot g.D.Disk} (λ server. server.engine.disk) c.refused.result) (after_line (record { root = c.args.self.root; limits = e.limits }) e.state c.args.line.now)
    c.refused.ensures.disk c.refused.ensures.stands
