use Rattle.std.proofs.Common.{◌≡◌, ◌∙◌, ℕ, List, sym, ap, subst, Ok}
use Rattle.std.specs.Prelude.{OnOk, IfErr}
use Rattle.tclv_vars.specs.Table.{Table, Refuses}
use Rattle.tclv_value.specs.View.{text_at}
use Rattle.tclv_reply.specs.Names.{naming, shape_of}
use Rattle.tclv_engine.specs.Names.{bytes_of, link_named}
use Rattle.tclv_engine.proofs.NameLemmas.{bytes-are}
use Rattle.tclv_engine.proofs.values.Values.link.Goals as goal

pub link_named-requires-clause-shape : goal.link_named-requires-clause-shape
link_named-requires-clause-shape c =
    c.requires.shape ∙ ap (λ h. shape_of (bytes_of (text_at h.store c.args.other))) (sym c.self.view_is) ∙ ap shape_of (sym (bytes-are _ _ c.lent-other.ensures.utf8 c.lent-other.ensures.text))

pub returns-clause-linked : goal.returns-clause-linked
returns-clause-linked c =
    let store = c.args.self.now.store in
    let local : c.lent-local.result.now ≡ bytes_of (text_at store c.args.local) = bytes-are _ _ c.lent-local.ensures.utf8 (c.lent-local.ensures.text ∙ ap (λ h. text_at h.store c.args.local) c.self.view_is) in
    let other : c.lent-other.result.now ≡ bytes_of (text_at store c.args.other) = bytes-are _ _ c.lent-other.ensures.utf8 (c.lent-other.ensures.text ∙ ap (λ h. text_at h.store c.args.other) c.self.view_is) in
    let P : Table → List ℕ → List ℕ → Type 0 = λ v a b. OnOk c.link_named.result (link_named v a c.args.root (naming b) ≡ Ok c.link_named.new.vars) in
    subst (λ v. P v (bytes_of (text_at store c.args.local)) (bytes_of (text_at store c.args.other))) (ap (λ h. h.vars) c.self.view_is)
    (subst (λ a. P c.self.inside.vars a (bytes_of (text_at store c.args.other))) local (subst (λ b. P c.self.inside.vars c.lent-local.result.now b) other c.link_named.ensures.linked))

pub returns-clause-refused : goal.returns-clause-refused
returns-clause-refused c =
    let store = c.args.self.now.store in
    let local : c.lent-local.result.now ≡ bytes_of (text_at store c.args.local) = bytes-are _ _ c.lent-local.ensures.utf8 (c.lent-local.ensures.text ∙ ap (λ h. text_at h.store c.args.local) c.self.view_is) in
    let other : c.lent-other.result.now ≡ bytes_of (text_at store c.args.other) = bytes-are _ _ c.lent-other.ensures.utf8 (c.lent-other.ensures.text ∙ ap (λ h. text_at h.store c.args.other) c.self.view_is) in
    let P : Table → List ℕ → List ℕ → Type 0 = λ v a b. IfErr c.link_named.result (Refuses (link_named v a c.args.root (naming b))) in
    subst (λ v. P v (bytes_of (text_at store c.args.local)) (bytes_of (text_at store c.args.other))) (ap (λ h. h.vars) c.self.view_is)
    (subst (λ a. P c.self.inside.vars a (bytes_of (text_at store c.args.other))) local (subst (λ b. P c.self.inside.vars c.lent-local.result.now b) other c.link_named.ensures.refused))
