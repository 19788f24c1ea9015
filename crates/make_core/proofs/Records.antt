-- The derived `==` of a record tells exactly which records are the same: so do those of all its parts.
use Rattle.std.proofs.Common.{◌≡◌, Bool, true, ◌&&◌, Option, Some, None, refl, sym, ap, subst}
use Rattle.std.specs.Bool.{Decides}
use Rattle.std.specs.Option.{option_eq}
use Rattle.std.specs.Cmp.Lexicographic.{pointwise_decides, bytes_decides}
use Rattle.std.proofs.lemmas.Bool.{false≢true}
use Rattle.std.proofs.lemmas.Bool.Decides.{Decides-and, Decides-eqb, Decides-like}
use Rattle.std.proofs.lemmas.Option.{none-some, same_Some}
use denote.Enum.Bare.{same_true, true_same}
use Rattle.fault_place.specs.contracts.fault.FaultKindPartialEq.TheImpl as kind_test
use Rattle.fault_place.specs.contracts.fault.FaultPartialEq.TheImpl as fault_test
use Rattle.pack_util.specs.contracts.number.FileIdPartialEq.TheImpl as file_test
use Rattle.pack_util.specs.contracts.number.SpanPartialEq.TheImpl as span_test
use Rattle.fault_place.specs.contracts.place.PlacePartialEq.TheImpl as place_test
use Rattle.fault_place.specs.declared.fault.Fault.{Fault}
use Rattle.fault_place.specs.declared.fault.FaultKind.{FaultKind}
use Rattle.fault_place.specs.declared.fault.FaultKind.TheVariants.{NotUtf8, Unfinished, Stray, Unmatched, Depth, Open, Form, DynamicRequest, Unresolved, NotExported, BadManifest, BadTarget, EntryOnDemand, BadJson, BadType, RepeatedName, AssetClash, GroupName, TooLong, NotYet}
use Rattle.pack_util.specs.declared.number.FileId.{FileId}
use Rattle.pack_util.specs.declared.number.Span.{Span}
use Rattle.fault_place.specs.declared.place.Place.{Place}
use Rattle.graph_types.specs.contracts.binding.BindPartialEq.TheImpl as bind_test
use Rattle.graph_types.specs.contracts.binding.ExportFromPartialEq.TheImpl as from_test
use Rattle.graph_types.specs.contracts.binding.ExportPartialEq.TheImpl as export_test
use Rattle.graph_types.specs.contracts.binding.StarPartialEq.TheImpl as star_test
use Rattle.graph_types.specs.contracts.edit.EditTextPartialEq.TheImpl as put_test
use Rattle.graph_types.specs.contracts.edit.EditPartialEq.TheImpl as edit_test
use Rattle.graph_types.specs.contracts.item.ItemKind as item_kind
use Rattle.graph_types.specs.contracts.item.ItemPartialEq.TheImpl as item_test
use Rattle.graph_types.specs.contracts.note.NoteKind as note_kind
use Rattle.graph_types.specs.contracts.note.NotePartialEq.TheImpl as note_test
use Rattle.graph_types.specs.contracts.record.ModKind as mod_kind
use Rattle.graph_types.specs.contracts.record.ModRecordPartialEq.TheImpl as record_test
use Rattle.graph_types.specs.declared.binding.Bind.{Bind}
use Rattle.graph_types.specs.declared.binding.Export.{Export}
use Rattle.graph_types.specs.declared.binding.ExportFrom.{ExportFrom}
use Rattle.graph_types.specs.declared.binding.ExportFrom.TheVariants.{Local, Name, Space}
use Rattle.graph_types.specs.declared.binding.Star.{Star}
use Rattle.graph_types.specs.declared.edit.Edit.{Edit}
use Rattle.graph_types.specs.declared.edit.EditText.{EditText}
use Rattle.graph_types.specs.declared.edit.EditText.TheVariants.{Fixed, Load}
use Rattle.graph_types.specs.declared.item.Item.{Item}
use Rattle.graph_types.specs.declared.note.Note.{Note}
use Rattle.graph_types.specs.declared.record.ModRecord.{ModRecord}

both : {P Q : Type 0} {x y : Bool} → Decides x P → Decides y Q → Decides (x && y) (P × Q)
both {P} {Q} {x} {y} p q = Decides-and x y p q

options_decide : {X : Type 0} {E : X → X → Bool} → ((x y : X) → Decides (E x y) (x ≡ y)) → (o p : Option X) → Decides (option_eq E o p) (o ≡ p)
options_decide d None None = (λ _. refl, λ _. refl)
options_decide d None (Some y) = (λ e. absurd (false≢true e), λ e. absurd (none-some y e))
options_decide d (Some x) None = (λ e. absurd (false≢true e), λ e. absurd (none-some x (sym e)))
options_decide d (Some x) (Some y) = (λ e. ap Some ((d x y).0 e), λ e. (d x y).1 (same_Some x y e))

file_decides : (a b : FileId) → Decides (file_test.ghosts.eq a b) (a ≡ b)
file_decides a b = Decides-like _ (λ e. λ i. record { 0 = e i }) (λ e. ap (λ (z : FileId). z.0) e) (Decides-eqb a.0 b.0)

span_decides : (a b : Span) → Decides (span_test.ghosts.eq a b) (a ≡ b)
span_decides a b =
    Decides-like _ (λ e. λ i. record { start = e.0 i; end = e.1 i }) (λ e. (ap (λ (z : Span). z.start) e, ap (λ (z : Span). z.end) e))
    (both (Decides-eqb a.start b.start) (Decides-eqb a.end b.end))

place_decides : (a b : Place) → Decides (place_test.ghosts.eq a b) (a ≡ b)
place_decides a b =
    Decides-like _
    (λ e. λ i. record { path = e.0 i; offset = e.1.0 i; line = e.1.1.0 i; column = e.1.1.1 i })
    (λ e. (ap (λ (z : Place). z.path) e, (ap (λ (z : Place). z.offset) e, (ap (λ (z : Place). z.line) e, ap (λ (z : Place). z.column) e))))
    (both (bytes_decides a.path b.path) (both (Decides-eqb a.offset b.offset) (both (Decides-eqb a.line b.line) (Decides-eqb a.column b.column))))

-- ---- choices: what one answers of itself, and of which others it answers so

from_same : (a b : ExportFrom) → from_test.ghosts.eq a b ≡ true → a ≡ b
from_same (Local x) (Local y) e = ap Local ((bytes_decides x y).0 e)
from_same (Name m x) (Name n y) e = let d = (both (Decides-eqb m n) (bytes_decides x y)).0 e in λ i. Name (d.0 i) (d.1 i)
from_same (Space m) (Space n) e = ap Space ((Decides-eqb m n).0 e)
from_same _ _ e = absurd (false≢true e)

from_itself : (a : ExportFrom) → from_test.ghosts.eq a a ≡ true
from_itself (Local x) = (bytes_decides x x).1 refl
from_itself (Name m x) = (both (Decides-eqb m m) (bytes_decides x x)).1 (refl, refl)
from_itself (Space m) = (Decides-eqb m m).1 refl

from_decides : (a b : ExportFrom) → Decides (from_test.ghosts.eq a b) (a ≡ b)
from_decides a b = (from_same a b, λ e. subst (λ z. from_test.ghosts.eq a z ≡ true) e (from_itself a))

put_same : (a b : EditText) → put_test.ghosts.eq a b ≡ true → a ≡ b
put_same (Fixed x) (Fixed y) e = ap Fixed ((bytes_decides x y).0 e)
put_same (Load m) (Load n) e = ap Load ((Decides-eqb m n).0 e)
put_same _ _ e = absurd (false≢true e)

put_itself : (a : EditText) → put_test.ghosts.eq a a ≡ true
put_itself (Fixed x) = (bytes_decides x x).1 refl
put_itself (Load m) = (Decides-eqb m m).1 refl

put_decides : (a b : EditText) → Decides (put_test.ghosts.eq a b) (a ≡ b)
put_decides a b = (put_same a b, λ e. subst (λ z. put_test.ghosts.eq a z ≡ true) e (put_itself a))

kind_same : (a b : FaultKind) → kind_test.ghosts.eq a b ≡ true → a ≡ b
kind_same NotUtf8 NotUtf8 e = refl
kind_same Unfinished Unfinished e = refl
kind_same Stray Stray e = refl
kind_same Unmatched Unmatched e = refl
kind_same Depth Depth e = refl
kind_same Open Open e = refl
kind_same Form Form e = refl
kind_same DynamicRequest DynamicRequest e = refl
kind_same Unresolved Unresolved e = refl
kind_same NotExported NotExported e = refl
kind_same BadManifest BadManifest e = refl
kind_same BadTarget BadTarget e = refl
kind_same EntryOnDemand EntryOnDemand e = refl
kind_same BadJson BadJson e = refl
kind_same BadType BadType e = refl
kind_same RepeatedName RepeatedName e = refl
kind_same (AssetClash m o) (AssetClash n p) e =
    let d = (both (Decides-eqb m n) (options_decide Decides-eqb o p)).0 e in λ i. AssetClash (d.0 i) (d.1 i)
kind_same GroupName GroupName e = refl
kind_same TooLong TooLong e = refl
kind_same NotYet NotYet e = refl
kind_same _ _ e = absurd (false≢true e)

kind_itself : (a : FaultKind) → kind_test.ghosts.eq a a ≡ true
kind_itself (AssetClash m o) = (both (Decides-eqb m m) (options_decide Decides-eqb o o)).1 (refl, refl)
kind_itself _ = refl

kind_decides : (a b : FaultKind) → Decides (kind_test.ghosts.eq a b) (a ≡ b)
kind_decides a b = (kind_same a b, λ e. subst (λ z. kind_test.ghosts.eq a z ≡ true) e (kind_itself a))

-- ---- the parts of a record

item_decides : (a b : Item) → Decides (item_test.ghosts.eq a b) (a ≡ b)
item_decides a b =
    Decides-like _
    (λ e. λ i. record { kind = e.0 i; span = e.1.0 i; at = e.1.1.0 i; request = e.1.1.1.0 i; chunk_name = e.1.1.1.1.0 i; target = e.1.1.1.1.1 i })
    (λ e. (ap (λ (z : Item). z.kind) e, (ap (λ (z : Item). z.span) e, (ap (λ (z : Item). z.at) e, (ap (λ (z : Item). z.request) e, (ap (λ (z : Item). z.chunk_name) e, ap (λ (z : Item). z.target) e))))))
    (both (same_true item_kind.the_type tt a.kind b.kind, true_same item_kind.the_type a.kind b.kind)
    (both (span_decides a.span b.span)
    (both (Decides-eqb a.at b.at)
    (both (bytes_decides a.request b.request)
    (both (options_decide bytes_decides a.chunk_name b.chunk_name) (options_decide file_decides a.target b.target))))))

bind_decides : (a b : Bind) → Decides (bind_test.ghosts.eq a b) (a ≡ b)
bind_decides a b =
    Decides-like _
    (λ e. λ i. record { local = e.0 i; item = e.1.0 i; name = e.1.1 i })
    (λ e. (ap (λ (z : Bind). z.local) e, (ap (λ (z : Bind). z.item) e, ap (λ (z : Bind). z.name) e)))
    (both (bytes_decides a.local b.local) (both (Decides-eqb a.item b.item) (options_decide bytes_decides a.name b.name)))

export_decides : (a b : Export) → Decides (export_test.ghosts.eq a b) (a ≡ b)
export_decides a b =
    Decides-like _
    (λ e. λ i. record { name = e.0 i; from = e.1 i })
    (λ e. (ap (λ (z : Export). z.name) e, ap (λ (z : Export). z.from) e))
    (both (bytes_decides a.name b.name) (from_decides a.from b.from))

star_decides : (a b : Star) → Decides (star_test.ghosts.eq a b) (a ≡ b)
star_decides a b = Decides-like _ (λ e. λ i. record { item = e i }) (λ e. ap (λ (z : Star). z.item) e) (Decides-eqb a.item b.item)

edit_decides : (a b : Edit) → Decides (edit_test.ghosts.eq a b) (a ≡ b)
edit_decides a b =
    Decides-like _
    (λ e. λ i. record { span = e.0 i; put = e.1 i })
    (λ e. (ap (λ (z : Edit). z.span) e, ap (λ (z : Edit). z.put) e))
    (both (span_decides a.span b.span) (put_decides a.put b.put))

note_decides : (a b : Note) → Decides (note_test.ghosts.eq a b) (a ≡ b)
note_decides a b =
    Decides-like _
    (λ e. λ i. record { at = e.0 i; kind = e.1.0 i; detail = e.1.1 i })
    (λ e. (ap (λ (z : Note). z.at) e, (ap (λ (z : Note). z.kind) e, ap (λ (z : Note). z.detail) e)))
    (both (Decides-eqb a.at b.at)
    (both (same_true note_kind.the_type tt a.kind b.kind, true_same note_kind.the_type a.kind b.kind) (bytes_decides a.detail b.detail)))

fault_decides : (a b : Fault) → Decides (fault_test.ghosts.eq a b) (a ≡ b)
fault_decides a b =
    Decides-like _
    (λ e. λ i. record { place = e.0 i; kind = e.1.0 i; detail = e.1.1 i })
    (λ e. (ap (λ (z : Fault). z.place) e, (ap (λ (z : Fault). z.kind) e, ap (λ (z : Fault). z.detail) e)))
    (both (place_decides a.place b.place) (both (kind_decides a.kind b.kind) (bytes_decides a.detail b.detail)))

pub record_decides : (a b : ModRecord) → Decides (record_test.ghosts.eq a b) (a ≡ b)
record_decides a b =
    Decides-like _
    (λ e. λ i. record {
      file = e.0 i;
      path = e.1.0 i;
      size = e.1.1.0 i;
      kind = e.1.1.1.0 i;
      text = e.1.1.1.1.0 i;
      items = e.1.1.1.1.1.0 i;
      binds = e.1.1.1.1.1.1.0 i;
      exports = e.1.1.1.1.1.1.1.0 i;
      stars = e.1.1.1.1.1.1.1.1.0 i;
      edits = e.1.1.1.1.1.1.1.1.1.0 i;
      notes = e.1.1.1.1.1.1.1.1.1.1.0 i;
      faults = e.1.1.1.1.1.1.1.1.1.1.1 i;
    })
    (λ e. (
      ap (λ (z : ModRecord). z.file) e,
      (
        ap (λ (z : ModRecord). z.path) e,
        (
          ap (λ (z : ModRecord). z.size) e,
          (
            ap (λ (z : ModRecord). z.kind) e,
            (
              ap (λ (z : ModRecord). z.text) e,
              (
                ap (λ (z : ModRecord). z.items) e,
                (
                  ap (λ (z : ModRecord). z.binds) e,
                  (
                    ap (λ (z : ModRecord). z.exports) e,
                    (ap (λ (z : ModRecord). z.stars) e, (ap (λ (z : ModRecord). z.edits) e, (ap (λ (z : ModRecord). z.notes) e, ap (λ (z : ModRecord). z.faults) e))),
                  ),
                ),
              ),
            ),
          ),
        ),
      ),
    ))
    (both (file_decides a.file b.file)
    (both (bytes_decides a.path b.path)
    (both (Decides-eqb a.size b.size)
    (both (same_true mod_kind.the_type tt a.kind b.kind, true_same mod_kind.the_type a.kind b.kind)
    (both (bytes_decides a.text b.text)
    (both (pointwise_decides item_decides a.items b.items)
    (both (pointwise_decides bind_decides a.binds b.binds)
    (both (pointwise_decides export_decides a.exports b.exports)
    (both (pointwise_decides star_decides a.stars b.stars)
    (both (pointwise_decides edit_decides a.edits b.edits)
    (both (pointwise_decides note_decides a.notes b.notes) (pointwise_decides fault_decides a.faults b.faults))))))))))))
