-- What an end leaves, case by case.
use Rattle.std.proofs.Common.{◌≡◌, ℕ, ◌⊎◌, List, length, take, refl, sym, ap, subst, inl, inr, append-nil}
use Rattle.std.specs.Prelude.{Option, Some, None}
use Rattle.std.proofs.Math.Seq.{take-length}
use Rattle.outside.specs.Sinks.{HasAdded}
use Rattle.outside.specs.Tree.{Tree}
use Rattle.outside.specs.Views.{SinkView}
use Rattle.outside.specs.declared.asset_sink.Asset.{Asset}
use Rattle.outside.specs.declared.entry.Why.{Why}
use Rattle.pack_run.specs.End.{IsDecided, OnNothingPut}
use Rattle.pack_run.specs.Reads.{ReadsBuild}
use Rattle.pack_run.specs.Report.{Adds, AddsFront, AddsProperFront, MayEnd, Reports}
use Rattle.pack_run.specs.Run.{Ends}
use Rattle.pack_run.specs.Verdict.{IsVerdict, end_by}
use Rattle.pack_run.specs.declared.end.End.{End}
use Rattle.pack_run.specs.declared.end.End.TheVariants.{Built, Faults, Usage, Config, Limit, ReadFault, WriteFault, LineFault, NoMemory}
use Rattle.pack_run.specs.declared.verdict.Verdict.{Verdict}
use Rattle.pack_run.specs.declared.verdict.Verdict.TheVariants as verdicts

module _ {A : Type 0} where
  -- the front of no members
  front_none : (told : Option (List A)) (members : List A) → (count : ℕ) × HasAdded told told (take count members)
  front_none None members = (0, refl)
  front_none (Some held) members = (0, ap Some (sym (append-nil held)))

  pub AddsFront-none : (view : SinkView A) (members : List A) → AddsFront view view members
  AddsFront-none view members = front_none view.held members

  -- the front of all members
  pub AddsFront-all : (before now : SinkView A) (members : List A) → Adds before now members → AddsFront before now members
  AddsFront-all before now members added = (length members, subst (Adds before now) (sym (take-length members)) added)

  pub AddsFront-proper : (before now : SinkView A) (members : List A) → AddsProperFront before now members → AddsFront before now members
  AddsFront-proper before now members front = (front.0, front.2)

module _ (words : List (List ℕ)) (readers : ℕ) (tree : Tree) (reads : List (List ℕ × Why)) (sink sink' : SinkView Asset) (lines lines' : SinkView (List ℕ)) where
  -- the verdict that was reported is the one on the tree
  pub ends_by : (end : End) (verdict : Verdict) (paths : List (List ℕ)) → IsVerdict words readers tree verdict paths → ReadsBuild words readers paths reads → Reports verdict sink sink' lines lines' end → Ends words readers tree reads sink sink' lines lines' end
  ends_by Built verdict paths is read tells = (verdict, paths, is, read, tells)
  ends_by (Faults count) verdict paths is read tells = (verdict, paths, is, read, tells)
  ends_by Usage verdict paths is read tells = (verdict, paths, is, read, tells)
  ends_by Config verdict paths is read tells = (verdict, paths, is, read, tells)
  ends_by (Limit limit) verdict paths is read tells = (verdict, paths, is, read, tells)
  ends_by ReadFault verdict paths is read never = absurd never
  ends_by WriteFault verdict paths is read left = (verdict, paths, is, read, left)
  ends_by LineFault verdict paths is read left = (verdict, paths, is, read, left)
  ends_by NoMemory verdict paths is read left = inr (verdict, paths, is, read, left)

  -- where no verdict is that of the words, an end tells none
  pub unverdicted : ((verdict : Verdict) (paths : List (List ℕ)) → IsVerdict words readers tree verdict paths → ⊥) → (end : End) → Ends words readers tree reads sink sink' lines lines' end → (end ≡ ReadFault) ⊎ (end ≡ NoMemory)
  unverdicted none Built left = absurd (none left.0 left.1 left.2)
  unverdicted none (Faults count) left = absurd (none left.0 left.1 left.2)
  unverdicted none Usage left = absurd (none left.0 left.1 left.2)
  unverdicted none Config left = absurd (none left.0 left.1 left.2)
  unverdicted none (Limit limit) left = absurd (none left.0 left.1 left.2)
  unverdicted none ReadFault left = inl refl
  unverdicted none WriteFault left = absurd (none left.0 left.1 left.2)
  unverdicted none LineFault left = absurd (none left.0 left.1 left.2)
  unverdicted none NoMemory left = inr refl

-- the end of a reported verdict
usage_verdict : (verdict : Verdict) → Usage ≡ end_by verdict → verdict ≡ verdicts.Usage
usage_verdict verdicts.Usage is = refl
usage_verdict (verdicts.Config place kind) is = cc
usage_verdict (verdicts.Limit limit) is = cc
usage_verdict (verdicts.Faults faults) is = cc
usage_verdict (verdicts.Built build) is = cc

-- usage is the end of no other verdict
pub usage_only : (verdict : Verdict) (end : End) → MayEnd verdict end → end ≡ Usage → verdict ≡ verdicts.Usage
usage_only verdict end may is = usage_verdict verdict (subst (MayEnd verdict) is may)

pub usage_ends : (end : End) → MayEnd verdicts.Usage end → (end ≡ Usage) ⊎ (end ≡ LineFault) ⊎ (end ≡ NoMemory)
usage_ends Usage may = inl refl
usage_ends LineFault may = inr (inl refl)
usage_ends NoMemory may = inr (inr refl)
usage_ends WriteFault may = absurd (may refl)
usage_ends Built may = cc
usage_ends (Faults count) may = cc
usage_ends Config may = cc
usage_ends (Limit limit) may = cc
usage_ends ReadFault may = cc

pub never_read_fault : (verdict : Verdict) → ReadFault ≡ end_by verdict → ⊥
never_read_fault verdicts.Usage is = cc
never_read_fault (verdicts.Config place kind) is = cc
never_read_fault (verdicts.Limit limit) is = cc
never_read_fault (verdicts.Faults faults) is = cc
never_read_fault (verdicts.Built build) is = cc

pub decided_by : (end : End) → (end ≡ ReadFault → ⊥) → (end ≡ WriteFault → ⊥) → (end ≡ LineFault → ⊥) → IsDecided end
decided_by Built read write line = tt
decided_by (Faults count) read write line = tt
decided_by Usage read write line = tt
decided_by Config read write line = tt
decided_by (Limit limit) read write line = tt
decided_by ReadFault read write line = read refl
decided_by WriteFault read write line = write refl
decided_by LineFault read write line = line refl
decided_by NoMemory read write line = tt

-- where nothing is put for a verdict, nothing is put at the end of its report
pub nothing_by : (verdict : Verdict) (end : End) (fact : Type 0) → MayEnd verdict end → OnNothingPut (end_by verdict) fact → OnNothingPut end fact
nothing_by verdict Built fact may nothing = tt
nothing_by verdict WriteFault fact may nothing = tt
nothing_by verdict LineFault fact may nothing = tt
nothing_by verdict NoMemory fact may nothing = tt
nothing_by verdict ReadFault fact may nothing = absurd (never_read_fault verdict may)
nothing_by verdict (Faults count) fact may nothing = subst (λ end. OnNothingPut end fact) (sym may) nothing
nothing_by verdict Usage fact may nothing = subst (λ end. OnNothingPut end fact) (sym may) nothing
nothing_by verdict Config fact may nothing = subst (λ end. OnNothingPut end fact) (sym may) nothing
nothing_by verdict (Limit limit) fact may nothing = subst (λ end. OnNothingPut end fact) (sym may) nothing

pub nothing_at : (end : End) (fact : Type 0) → fact → OnNothingPut end fact
nothing_at Built fact is = tt
nothing_at WriteFault fact is = tt
nothing_at LineFault fact is = tt
nothing_at NoMemory fact is = tt
nothing_at ReadFault fact is = is
nothing_at (Faults count) fact is = is
nothing_at Usage fact is = is
nothing_at Config fact is = is
nothing_at (Limit limit) fact is = is
