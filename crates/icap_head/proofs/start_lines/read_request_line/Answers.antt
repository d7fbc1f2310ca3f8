-- A request line of version 1.0 is read, any other line refused; where no memory is found to judge the URI, the line may be one.
use Rattle.std.proofs.Common.{◌≡◌, ◌≢◌, ℕ, List, rules, IsTrue, false, subst, sym, codes, refl, ◌∙◌, ◌++◌, ◌∷◌, inl, inr}
use Rattle.adapt_bytes.specs.Text.{IsToken, Lacks}
use Rattle.icap_head.specs.StartLines.{IsVersion, IsIcapUri, IsRequestLine, MayBeRequestLine, RequestForm, RefusesStartLine}
use Rattle.icap_head.specs.declared.reading.HeadFault.TheVariants.{StartLine}
use Rattle.icap_head.proofs.Words.{no_first, no_second, all_words, line_from, words_joined}
use Rattle.icap_head.proofs.Lacking.{false_true}
use Rattle.icap_head.proofs.start_lines.read_request_line.Goals as goal

-- a line that is no request line, whatever its words, is refused as a start line
no_form : (line : List ℕ) → ((m u v : List ℕ) → IsRequestLine line m u v → ⊥) → RefusesStartLine RequestForm StartLine line
no_form line none = inl (refl, λ v form. none form.0 form.1 v form.2)

-- a token, a word without a space and a version, cut at spaces, may be a request line
three_words : (line method rest word version : List ℕ) → line ≡ method ++ 32 ∷ rest → rest ≡ word ++ 32 ∷ version → Lacks 32 word
    → IsToken method → IsVersion version → MayBeRequestLine line
three_words line method rest word version first next one token is =
    record {
      method = method;
      word = word;
      version = version;
      line_is = words_joined line method rest word version first next;
      method_is = token;
      one_word = one;
      version_is = is;
    }

pub returns-in_default-clause-err : goal.returns-in_default-clause-err
returns-in_default-clause-err c = no_form c.args.line.now (λ m u v h. no_first c.args.line.now m u v c.in_default.ensures.none h)

pub returns-in_default-cut_at_space-clause-err : goal.returns-in_default-cut_at_space-clause-err
returns-in_default-cut_at_space-clause-err c = no_form c.args.line.now (λ m u v h.
    let some = c.in-Some.ensures.some in
    no_second c.args.line.now c.in-Some.method.now c.in-Some.rest.now m u v some.0 some.1 c.in_default-cut_at_space.ensures.none h)

pub returns-then-not-is_token-clause-err : goal.returns-then-not-is_token-clause-err
returns-then-not-is_token-clause-err c = no_form c.args.line.now (λ m u v h.
    let some = c.in-Some.ensures.some in
    let next = c.in-Some-cut_at_space.ensures.some in
    let words = all_words c.args.line.now c.in-Some.method.now c.in-Some.rest.now c.in-Some-cut_at_space.uri.now
    c.in-Some-cut_at_space.version.now m u v some.0 some.1 next.0 next.1 h in
    let wrong : IsTrue false = c.if-not-is_token.ensures.1 (subst IsToken (sym words.0) h.method_is) in
    false_true wrong)

pub returns-then-not-is_version-clause-err : goal.returns-then-not-is_version-clause-err
returns-then-not-is_version-clause-err c = no_form c.args.line.now (λ m u v h.
    let some = c.in-Some.ensures.some in
    let next = c.in-Some-cut_at_space.ensures.some in
    let words = all_words c.args.line.now c.in-Some.method.now c.in-Some.rest.now c.in-Some-cut_at_space.uri.now
    c.in-Some-cut_at_space.version.now m u v some.0 some.1 next.0 next.1 h in
    let wrong : IsTrue false = c.if-not-is_version.ensures.1 (subst IsVersion (sym words.2) h.version_is) in
    false_true wrong)

pub returns-then-not-is_uri-clause-err : goal.returns-then-not-is_uri-clause-err
returns-then-not-is_uri-clause-err c = no_form c.args.line.now (λ m u v h.
    let some = c.in-Some.ensures.some in
    let next = c.in-Some-cut_at_space.ensures.some in
    let words = all_words c.args.line.now c.in-Some.method.now c.in-Some.rest.now c.in-Some-cut_at_space.uri.now
    c.in-Some-cut_at_space.version.now m u v some.0 some.1 next.0 next.1 h in
    let uri : IsIcapUri c.in-Some-cut_at_space.uri.now = subst IsIcapUri (sym words.1) h.uri_is in
    false_true (sym c.if-not-is_uri.true ∙ c.in-Ok.ensures.1 uri))

pub returns-then-is_supported-clause-some : goal.returns-then-is_supported-clause-some
returns-then-is_supported-clause-some c =
    let some = c.in-Some.ensures.some in
    let next = c.in-Some-cut_at_space.ensures.some in
    let token : IsToken c.in-Some.method.now = search rules in
    let version : IsVersion c.in-Some-cut_at_space.version.now = search rules in
    let uri : IsIcapUri c.in-Some-cut_at_space.uri.now = c.in-Ok.ensures.0 (search rules) in
    let same : c.in-Some-cut_at_space.version.now ≡ codes "ICAP/1.0" = c.if-is_supported.ensures.0 refl in
    subst (IsRequestLine c.args.line.now c.in-Some.method.now c.in-Some-cut_at_space.uri.now) same
    (line_from c.args.line.now c.in-Some.method.now c.in-Some.rest.now c.in-Some-cut_at_space.uri.now c.in-Some-cut_at_space.version.now
    some.0 next.0 next.1 token uri version)

pub returns-then-is_supported-clause-ok : goal.returns-then-is_supported-clause-ok
returns-then-is_supported-clause-ok c =
    let some = c.in-Some.ensures.some in
    let next = c.in-Some-cut_at_space.ensures.some in
    let token : IsToken c.in-Some.method.now = search rules in
    let version : IsVersion c.in-Some-cut_at_space.version.now = search rules in
    three_words c.args.line.now c.in-Some.method.now c.in-Some.rest.now c.in-Some-cut_at_space.uri.now c.in-Some-cut_at_space.version.now
    some.0 next.0 next.1 token version

pub returns-in_default-is_icap_uri-clause-ok : goal.returns-in_default-is_icap_uri-clause-ok
returns-in_default-is_icap_uri-clause-ok c =
    let some = c.in-Some.ensures.some in
    let next = c.in-Some-cut_at_space.ensures.some in
    let token : IsToken c.in-Some.method.now = search rules in
    let version : IsVersion c.in-Some-cut_at_space.version.now = search rules in
    three_words c.args.line.now c.in-Some.method.now c.in-Some.rest.now c.in-Some-cut_at_space.uri.now c.in-Some-cut_at_space.version.now
    some.0 next.0 next.1 token version

pub returns-else-is_supported-clause-err : goal.returns-else-is_supported-clause-err
returns-else-is_supported-clause-err c =
    let some = c.in-Some.ensures.some in
    let next = c.in-Some-cut_at_space.ensures.some in
    let token : IsToken c.in-Some.method.now = search rules in
    let version : IsVersion c.in-Some-cut_at_space.version.now = search rules in
    let uri : IsIcapUri c.in-Some-cut_at_space.uri.now = c.in-Ok.ensures.0 (search rules) in
    let other : c.in-Some-cut_at_space.version.now ≢ codes "ICAP/1.0" = λ same. false_true (c.if-is_supported.ensures.1 same) in
    inr (
      refl,
      (
        c.in-Some-cut_at_space.version.now,
        (
          c.in-Some.method.now,
          c.in-Some-cut_at_space.uri.now,
          line_from c.args.line.now c.in-Some.method.now c.in-Some.rest.now c.in-Some-cut_at_space.uri.now
              c.in-Some-cut_at_space.version.now some.0 next.0 next.1 token uri version,
        ),
        other,
      ),
    )
