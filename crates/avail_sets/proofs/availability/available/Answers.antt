use Rattle.std.proofs.Common.{◌≡◌, ℕ, ◌<◌, false, length, sym, subst, ◌∙◌, arith}
use Rattle.chunk_groups.specs.Grouped.{net_of}
use Rattle.chunk_groups.specs.Net.{Net}
use Rattle.chunk_groups.specs.Rows.{bit_in}
use Rattle.chunk_groups.specs.Serving.{Holds, IsSettled, MayLack}
use Rattle.avail_sets.specs.inner.Falling.{AreFirst, IsFalling}
use Rattle.avail_sets.proofs.Fallen.{settled-fallen, fallen-available, least-serving}
use Rattle.avail_sets.proofs.Visits.{fresh-falling}
use Rattle.avail_sets.proofs.availability.available.Goals as goal

module _ (c : goal.After-drop-opened-inside-2) where
  abbrev net : Net
  net = net_of c.args.graph.now c.args.groups.now.infos

  abbrev brings : ℕ → ℕ → Type 0
  brings = Holds (bit_in c.args.reach.now.rows)

  first : AreFirst c.args.groups.now.infos c.count.result c.in_ok-avail.avail
  first = c.in_ok-avail.ensures

  wide : c.in_ok-avail.avail.width ≡ length c.args.graph.now.records
  wide = first.wide ∙ c.count.ensures.count

  fallen : IsFalling net brings c.in_ok-avail.avail.width c.fall.new.avail.rows c.fall.new.pending
  fallen =
      let start = fresh-falling c.args.graph.now c.args.groups.now.infos brings c.count.result c.in_ok-avail.avail c.in_ok-pending.pending first c.in_ok-pending.ensures.entries in
      c.in_ok-fall.ensures.fallen net c.in_ok-opened.ensures.opened c.in_ok-pending.ensures.places
      (subst (λ (w : ℕ). IsFalling net brings w c.in_ok-avail.avail.rows c.in_ok-pending.pending) (sym first.wide) start)

  settled : IsSettled net brings (bit_in c.fall.new.avail.rows)
  settled = settled-fallen net brings c.in_ok-avail.avail.width c.fall.new.avail.rows c.fall.new.pending fallen c.in_ok-fall.ensures.quiet

  missing : (g m : ℕ) → g < length c.args.groups.now.infos → m < length c.args.graph.now.records → bit_in c.fall.new.avail.rows g m ≡ false → MayLack net brings g m
  missing g m group module_is gone = fallen.missing g m group (omega (arith, wide)) gone

pub returns-clause-available : goal.returns-clause-available
returns-clause-available c =
    fallen-available c.args.graph.now c.args.groups.now.infos c.requires.over c.args.reach.now c.fall.new.avail c.requires.reach (settled c) (missing c)
    (c.in_ok-fall.ensures.rows ∙ (first c).rows) (c.in_ok-fall.ensures.width ∙ wide c)

pub returns-clause-least : goal.returns-clause-least
returns-clause-least c = least-serving c.args.graph.now c.args.groups.now.infos c.requires.over c.args.reach.now c.fall.new.avail c.requires.reach (settled c) (missing c)
