-- The loading runtime (this project): what a page needs to load chunks and to run modules.
use Rattle.std.specs.Prelude.{ℕ, List, codes}

unfoldable pub runtime_functions : List ℕ
runtime_functions =
    codes "(function(G){\nif(G.__chunkpack)return;\nvar P=G.__chunkpack=function(i){\nvar c=P.c[i];\nif(c)return c.exports;\nc=P.c[i]={exports:{}};\nP.m[i].call(c.exports,c,c.exports,P);\nreturn c.exports;\n};\nP.c={};P.m={};P.f={};P.w={};P.q={};P.p={};P.u=\"\";\nP.x=function(i){var e=P(i);return e&&e.__esModule?e:Object.assign({default:e},e);};\nP.g=function(e,n){return e&&e.__esModule?e[n]:n===\"default\"?e:e[n];};\nP.d=function(e,o){\nObject.defineProperty(e,\"__esModule\",{value:true});\nObject.keys(o).forEach(function(k){Object.defineProperty(e,k,{enumerable:true,get:o[k]});});\n};\nP.s=function(e,f){\nObject.keys(f).forEach(function(k){if(k!==\"default\"&&!Object.prototype.hasOwnProperty.call(e,k))Object.defineProperty(e,k,{enumerable:true,get:function(){return f[k];}});});\n};\nP.b=function(i,o){\nvar b=Object.create(null);\nObject.keys(o).forEach(function(k){var t=o[k];Object.defineProperty(b,k,{get:function(){return t.length>1?P.g(i[t[0]],t[1]):i[t[0]];}});});\nreturn b;\n};\nP.a=function(k,m){\nObject.keys(m).forEach(function(i){if(!P.m[i])P.m[i]=m[i];});\nP.w[k]=1;\nif(P.q[k])P.q[k]();\n};\nP.e=function(l){\nreturn Promise.all(l.map(function(k){\nif(P.w[k])return 1;\nif(!P.p[k])P.p[k]=new Promise(function(y,n){\nP.q[k]=y;\nvar s=document.createElement(\"script\");\ns.src=P.u+P.f[k];\ns.onerror=function(){delete P.p[k];n(new Error(\"chunk \"+k));};\ndocument.head.appendChild(s);\n});\nreturn P.p[k];\n}));\n};\n})(self);\n"
