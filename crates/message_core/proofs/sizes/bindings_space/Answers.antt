use Rattle.std.proofs.Common.{◌∙◌, ap, length, arith, FitsSigned, w32, rules}
use Rattle.std.proofs.lemmas.Int.{to_z-of_z}
use Rattle.ber_core.specs.Encoding.{canon_tlv}
use Rattle.message_core.specs.Tags as tags
use Rattle.message_core.proofs.Measures.{space_decides}
use Rattle.message_core.proofs.sizes.bindings_space.Goals as goal

pub returns-clause-space : goal.returns-clause-space
returns-clause-space c = λ bindings.
    let fits : FitsSigned w32 c.args.request.now.id = search rules in
    let status_len = rw c.code.ensures at c.integer_len-status.ensures.len in
    let id_len = simp to_z-of_z at c.integer_len-id.ensures.len in
    space_decides c.args.request.now bindings c.integer_len-version.result c.community_len-community.result c.integer_len-id.result c.integer_len-status.result c.integer_len-index.result _
    c.integer_len-version.ensures.len
    (c.community_len-community.ensures.len ∙ ap (λ cs. length (canon_tlv tags.octet_string cs)) c.as_slice.ensures)
    id_len
    status_len
    c.integer_len-index.ensures.len
    (omega (arith, c.integer_len-version.ensures.most, c.community_len-community.ensures.most, c.integer_len-id.ensures.most, c.integer_len-status.ensures.most, c.integer_len-index.ensures.most))
    (omega (arith, c.integer_len-version.ensures.most, c.community_len-community.ensures.most, c.integer_len-id.ensures.most, c.integer_len-status.ensures.most, c.integer_len-index.ensures.most))
