-- One number more is one field more of the row.
use Rattle.std.proofs.Common.{refl, sym, subst, ◌∙◌, arith, pos, take, get_or, rules, w64}
use mir.Facts.{to_z-of_z}
use mir.Val.{SFits}
use Rattle.rows.specs.Buffers.{Puts}
use Rattle.rows.specs.Rows.{fields_of}
use Rattle.rows.proofs.Putting.{put_none, puts-append}
use Rattle.rows.proofs.Fields.{fields_next, fields_one}
use Rattle.rows.proofs.put_fields.Goals as goal

pub loop-z-init : goal.loop-z-init
unfolding fields_of
loop-z-init c = (refl, (omega arith, sym (put_none c.args.out.now c.args.at)))

pub put_field-next-requires : goal.put_field-next-requires
put_field-next-requires c =
    let l = c.loop-z in
    let x : SFits w64 (get_or c.args.zs.now l.z-index (pos 0)) = search rules in
    simp (to_z-of_z x) (omega (arith, fields_one c.args.zs.now l.z-index c.loop-z-test.true, l.invariant))

pub loop-z-preserved : goal.loop-z-preserved
loop-z-preserved c =
    let a = c.args in
    let l = c.loop-z in
    let zs = a.zs.now in
    let w = c.put_field-next.new.out in
    let x : SFits w64 (get_or zs l.z-index (pos 0)) = search rules in
    let h = fields_one zs l.z-index c.loop-z-test.true in
    let e = simp (to_z-of_z x) at c.put_field-next.ensures in (
      c.put_field-next.auto.out ∙ l.invariant.0,
      subst (λ t. Puts a.out.now a.at t w c.put_field-next.result) (fields_next zs l.z-index c.loop-z-test.true)
          (puts-append _ _ w _ _ _ (fields_of (take l.z-index zs)) _ (omega arith) l.invariant.1 e),
    )
