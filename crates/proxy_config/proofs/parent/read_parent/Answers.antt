-- The key is good where its table says where the parent is, or is missing, and else it or a key of its table is the first at fault.
use Rattle.std.proofs.Common.{◌≡◌, Option, Some, None, option_and_then, codes, sym, ◌∙◌, rules}
use Rattle.std.proofs.lemmas.Bool.{false≢true}
use Rattle.std.specs.declared.net.socket_addr.SocketAddrV4.{SocketAddrV4}
use Rattle.toml.specs.Data.{get_member, as_table}
use Rattle.toml.specs.View.{table_view}
use Rattle.proxy_config.specs.Config.{IsFirstFault}
use Rattle.proxy_config.specs.Fault.{Names}
use Rattle.proxy_config.specs.Keys.Kind.{parent_proxy}
use Rattle.proxy_config.specs.Parent.{IsParent, IsParentFault, IsItsOwnParent}
use Rattle.proxy_config.proofs.Judging.{past, names_first}
use Rattle.proxy_config.proofs.ParentLemmas.{fault_in_table, own_fault}
use Rattle.proxy_config.proofs.Refusals.{names_it, passed_on}
use Rattle.proxy_config.proofs.parent.read_parent.Goals as goal

pub returns-in_default-clause-past : goal.returns-in_default-clause-past
returns-in_default-clause-past c =
    let document = table_view c.args.table.now in
    let none : get_member (codes "parent") document ≡ None = search rules in
    past (codes "parent") parent_proxy document c.requires (None, none)

pub returns-clause-ok : goal.returns-clause-ok
returns-clause-ok c =
    let document = table_view c.args.table.now in
    let at : option_and_then as_table (get_member (codes "parent") document) ≡ Some (table_view c.in_ok-inner.inner.now) = search rules in (
      (table_view c.in_ok-inner.inner.now, at, c.in_ok-parent.ensures.ok),
      λ own. false≢true (sym c.if-is_proxy.false ∙ c.is_proxy.ensures.1 own),
    )

pub returns-clause-past : goal.returns-clause-past
returns-clause-past c =
    let document = table_view c.args.table.now in
    let at : option_and_then as_table (get_member (codes "parent") document) ≡ Some (table_view c.in_ok-inner.inner.now) = search rules in
    let found : Option SocketAddrV4 = Some c.in_ok-parent.parent in
    let is : IsParent document found = (
      (table_view c.in_ok-inner.inner.now, at, c.in_ok-parent.ensures.ok),
      λ own. false≢true (sym c.if-is_proxy.false ∙ c.is_proxy.ensures.1 own),
    ) in
    past (codes "parent") parent_proxy document c.requires (found, is)

pub returns-in_err-inner-clause-err : goal.returns-in_err-inner-clause-err
returns-in_err-inner-clause-err c =
    let document = table_view c.args.table.now in
    let named : Names (IsParentFault document) c.in_err-inner.field-0.0 = search rules in
    passed_on c.from_residual.result c.in_err-inner.field-0.0 (IsFirstFault document) c.from_residual.ensures.1
    (names_first (codes "parent") parent_proxy document c.requires c.in_err-inner.field-0.0 named)

pub returns-in_err-parent-clause-err : goal.returns-in_err-parent-clause-err
returns-in_err-parent-clause-err c =
    let document = table_view c.args.table.now in
    let table = table_view c.in_ok-inner.inner.now in
    let fault = c.in_err-parent.field-0.0 in
    let at : option_and_then as_table (get_member (codes "parent") document) ≡ Some table = search rules in
    let named : Names (IsParentFault document) fault = fault_in_table document table at fault c.in_err-parent.ensures.err in
    passed_on c.from_residual-in_err-parent.result fault (IsFirstFault document) c.from_residual-in_err-parent.ensures.1
    (names_first (codes "parent") parent_proxy document c.requires fault named)

pub returns-then-is_proxy-clause-err : goal.returns-then-is_proxy-clause-err
returns-then-is_proxy-clause-err c =
    let document = table_view c.args.table.now in
    let table = table_view c.in_ok-inner.inner.now in
    let at : option_and_then as_table (get_member (codes "parent") document) ≡ Some table = search rules in
    let own : IsItsOwnParent document table = (c.in_ok-parent.parent, c.in_ok-parent.ensures.ok, c.is_proxy.ensures.0 c.if-is_proxy.true) in
    let says : IsParentFault document (codes "parent") = own_fault document table at own in
    names_first (codes "parent") parent_proxy document c.requires c.at_key.result
    (names_it (codes "parent") (IsParentFault document) says c.at_key.result c.at_key.ensures)
